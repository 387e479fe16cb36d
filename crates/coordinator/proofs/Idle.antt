-- Worlds in which nothing is in flight, and the turns between them.
use Rattle.std.proofs.Common.{◌≡◌, ℕ, ◌≤◌, ◌<◌, Bool, true, false, Option, Some, None, List, [], ◌∷◌, ◌++◌, ◌+◌, length, refl, ap, ◌∙◌, arith, eq-eqb, length-append, unwrap_or}
use Rattle.std.specs.List.{position}
use Rattle.std.specs.Str.{bytes_eq}
use Rattle.job_machine.specs.Job.{Act, new_job, next}
use Rattle.job_machine.specs.declared.state.Ended.{Ended}
use Rattle.job_machine.specs.declared.state.Ended.TheVariants as ended
use Rattle.plain_answer.specs.declared.ask.Ask.{Ask as Query}
use Rattle.run_history.specs.Commands.{Command}
use Rattle.run_history.specs.Commands.Command.{Load, Submit, Drop, Steer, Ask, Note}
use Rattle.run_history.specs.Commands.Turn.{Takes, Claims, StepEnds}
use Rattle.run_history.specs.Cubes.{Rows}
use Rattle.run_history.specs.Histories.{IsNextAttempt, claim_count}
use Rattle.run_history.specs.Sets.{ReadySet}
use Rattle.run_history.specs.Steps.{accepted, by_verdict, claimed, end_by, ended_as, step, step_ended, steered, steps_of, without_claim}
use Rattle.run_history.specs.Verdicts.{act_of, verdict}
use Rattle.run_history.specs.World.{Submitted, World, busy, in_force, job_of, number}
use Rattle.run_history.specs.declared.command.Control.{Control}
use Rattle.run_history.specs.declared.event.Outcome.{Outcome}
use Rattle.run_history.specs.declared.refused.Refused.{Refused}
use Rattle.run_transcript.specs.Served.{command_of, load_at}
use Rattle.script_text.specs.declared.verb.Verb.{Verb}
use Rattle.script_text.specs.declared.verb.Verb.TheVariants as verb
use Rattle.coordinator.specs.Claims.{IsAloneInFlight, IsStepping}
use Rattle.coordinator.specs.Coordinator.{IsIdle, is_query}
use Rattle.coordinator.specs.Served.{served}
use Rattle.job_board.specs.Ledger.{cube}
use Rattle.coordinator.proofs.InFlight.{alone-claimed, not_in_flight-absent, not_in_flight-added, not_in_flight-ended, not_in_flight-set, not_in_flight-steered}

-- a set more
past_more : (past : List ReadySet) (ready : ReadySet) (n : ℕ) → n ≤ length past → n ≤ length (past ++ ready ∷ [])
past_more past ready n h = omega (arith, h, length-append past (ready ∷ []))

-- no piece of work is in flight
pub idle-busy : (w : World Query) → IsIdle w → busy w < w.workers
idle-busy w i = omega (arith, i.workers, ap length i.steps, ap length i.asked)

-- ---- commands

abbrev pub is_ask : Command Query → Bool
is_ask (Ask session query) = true
is_ask (Load place rows) = false
is_ask (Submit kind range) = false
is_ask (Drop range) = false
is_ask (Steer control job) = false
is_ask (Note noted) = false

no_ask_load : (place : Option ℕ) (rows : Rows) → is_ask (load_at place rows) ≡ false
no_ask_load None rows = refl
no_ask_load (Some place) rows = refl

pub no_ask : (rows : Rows) (said : Verb) → is_query said ≡ false → is_ask (command_of served rows said) ≡ false
no_ask rows (verb.Descriptor path) h = refl
no_ask rows (verb.Load name path) h = no_ask_load (position (bytes_eq name) cube.tables) rows
no_ask rows (verb.Build range) h = refl
no_ask rows (verb.Refresh range) h = refl
no_ask rows (verb.Merge range) h = refl
no_ask rows (verb.Drop range) h = refl
no_ask rows (verb.Pause job) h = refl
no_ask rows (verb.Resume job) h = refl
no_ask rows (verb.Discard job) h = refl
no_ask rows (verb.AwaitJob job) h = refl
no_ask rows verb.AwaitJobs h = refl
no_ask rows verb.AwaitQueries h = refl
no_ask rows verb.Jobs h = refl
no_ask rows verb.Segments h = refl
no_ask rows (verb.Query session text) h = absurd cc

idle_steered : (w : World Query) (control : Control) (job : ℕ) (found : Option Submitted) → job_of w job ≡ found → IsIdle w → IsIdle (steered w control job found)
idle_steered w control job None e i = i
idle_steered w control job (Some s) e i = record {
  workers = i.workers;
  answers = i.answers;
  steps = i.steps;
  waiting = i.waiting;
  asked = i.asked;
  not_in_flight = not_in_flight-set w.jobs job s (record s { job = next (act_of control) s.job }) e (not_in_flight-steered control s (i.not_in_flight job s e)) (λ m u other at. i.not_in_flight m u at);
}

idle_accepted : (n : ℕ) (w : World Query) (command : Command Query) → is_ask command ≡ false → IsIdle w → IsIdle (accepted n w command)
idle_accepted n w (Load place rows) h i = record { workers = i.workers; answers = i.answers; steps = i.steps; waiting = i.waiting; asked = i.asked; not_in_flight = i.not_in_flight }
idle_accepted n w (Submit kind range) h i = record {
  workers = i.workers;
  answers = i.answers;
  steps = i.steps;
  waiting = i.waiting;
  asked = i.asked;
  not_in_flight = not_in_flight-added w.jobs (record { job = new_job (length w.jobs + 1) kind n; range = range; tables = None }) refl i.not_in_flight;
}
idle_accepted n w (Drop range) h i = record { workers = i.workers; answers = λ session. past_more w.past w.ready (w.answered session) (i.answers session); steps = i.steps; waiting = i.waiting; asked = i.asked; not_in_flight = i.not_in_flight }
idle_accepted n w (Steer control job) h i = idle_steered w control job (job_of w job) refl i
idle_accepted n w (Ask session query) h i = absurd cc
idle_accepted n w (Note noted) h i = i

idle_by : (refusal : Option Refused) (n : ℕ) (w : World Query) (command : Command Query) → is_ask command ≡ false → IsIdle w → IsIdle (by_verdict refusal n w command)
idle_by (Some refused) n w command h i = i
idle_by None n w command h i = idle_accepted n w command h i

pub idle-command : (w : World Query) (line : ℕ) (command : Command Query) → is_ask command ≡ false → IsIdle w → IsIdle (step cube w (Takes line command))
idle-command w line command h i =
    idle_by (verdict cube w command) (steps_of cube command) (record w { line = line }) command h
    (record { workers = i.workers; answers = i.answers; steps = i.steps; waiting = i.waiting; asked = i.asked; not_in_flight = i.not_in_flight })

line_steered : (w : World Query) (control : Control) (job : ℕ) (found : Option Submitted) → (steered w control job found).line ≡ w.line
line_steered w control job None = refl
line_steered w control job (Some s) = refl

line_by : (refusal : Option Refused) (n : ℕ) (w : World Query) (command : Command Query) → (by_verdict refusal n w command).line ≡ w.line
line_by (Some refused) n w command = refl
line_by None n w (Load place rows) = refl
line_by None n w (Submit kind range) = refl
line_by None n w (Drop range) = refl
line_by None n w (Steer control job) = line_steered w control job (job_of w job)
line_by None n w (Ask session query) = refl
line_by None n w (Note noted) = refl

-- the line of the last command
pub line-command : (w : World Query) (line : ℕ) (command : Command Query) → (step cube w (Takes line command)).line ≡ line
line-command w line command = line_by (verdict cube w command) (steps_of cube command) (record w { line = line }) command

-- ---- steps

stepping_claimed : (w : World Query) (job attempt : ℕ) (found : Option Submitted) → job_of w job ≡ found → IsNextAttempt found attempt → IsIdle w → IsStepping (claimed w job attempt found) job attempt
stepping_claimed w job attempt None e h i = absurd h
stepping_claimed w job attempt (Some s) e h i = record {
  workers = i.workers;
  answers = i.answers;
  steps = ap (λ (claims : List (ℕ × ℕ)). claims ++ (job, attempt) ∷ []) i.steps;
  waiting = i.waiting;
  asked = i.asked;
  alone = alone-claimed w.jobs job attempt s (record s { job = next Act.Claim s.job; tables = Some (unwrap_or s.tables (in_force w)) }) e h refl i.not_in_flight;
}

pub stepping-claim : (w : World Query) (job attempt : ℕ) → IsNextAttempt (job_of w job) attempt → IsIdle w → IsStepping (step cube w (Claims job attempt)) job attempt
stepping-claim w job attempt h i = stepping_claimed w job attempt (job_of w job) refl h i

-- the claim is there
pub stepping-count : (w : World Query) (job attempt : ℕ) → IsStepping w job attempt → 0 < claim_count job attempt w.steps
stepping-count w job attempt s =
    let one : claim_count job attempt ((job, attempt) ∷ []) ≡ 1 = rw (eq-eqb job job refl, eq-eqb attempt attempt refl) refl in
    omega (arith, one, ap (claim_count job attempt) s.steps)

-- what an idle world has beside its jobs
record IsQuiet (w : World Query) : Type 0 where
  pub workers : 0 < w.workers
  pub answers : (session : ℕ) → w.answered session ≤ number w
  pub steps : w.steps ≡ []
  pub waiting : w.waiting ≡ []
  pub asked : w.asked ≡ []

module _ (w : World Query) (job attempt : ℕ) (i : IsQuiet w) (alone : IsAloneInFlight job attempt w.jobs) where
  idle_ended_as : (e : Ended) (outcome : Outcome) (s : Submitted) → job_of w job ≡ Some s → end_by outcome s.job attempt ≡ e → IsIdle (ended_as e w job s)
  idle_ended_as ended.Stale outcome s there e =
      record { workers = i.workers; answers = i.answers; steps = i.steps; waiting = i.waiting; asked = i.asked; not_in_flight = not_in_flight-ended w.jobs job attempt alone ended.Stale outcome s there e }
  idle_ended_as ended.Advanced outcome s there e =
      record { workers = i.workers; answers = i.answers; steps = i.steps; waiting = i.waiting; asked = i.asked; not_in_flight = not_in_flight-ended w.jobs job attempt alone ended.Advanced outcome s there e }
  idle_ended_as ended.Finished outcome s there e = record {
    workers = i.workers;
    answers = λ session. past_more w.past w.ready (w.answered session) (i.answers session);
    steps = i.steps;
    waiting = i.waiting;
    asked = i.asked;
    not_in_flight = not_in_flight-ended w.jobs job attempt alone ended.Finished outcome s there e;
  }
  idle_ended_as ended.Failed outcome s there e =
      record { workers = i.workers; answers = i.answers; steps = i.steps; waiting = i.waiting; asked = i.asked; not_in_flight = not_in_flight-ended w.jobs job attempt alone ended.Failed outcome s there e }

  idle_ended : (outcome : Outcome) (found : Option Submitted) → job_of w job ≡ found → IsIdle (step_ended w job attempt outcome found)
  idle_ended outcome None e =
      record { workers = i.workers; answers = i.answers; steps = i.steps; waiting = i.waiting; asked = i.asked; not_in_flight = not_in_flight-absent w.jobs job attempt alone e }
  idle_ended outcome (Some s) e = idle_ended_as (end_by outcome s.job attempt) outcome s e refl

pub idle-end : (w : World Query) (job attempt : ℕ) (outcome : Outcome) → IsStepping w job attempt → IsIdle (step cube w (StepEnds job attempt outcome))
idle-end w job attempt outcome s =
    let none : without_claim job attempt ((job, attempt) ∷ []) ≡ [] = rw (eq-eqb job job refl, eq-eqb attempt attempt refl) refl in
    idle_ended (record w { steps = without_claim job attempt w.steps }) job attempt
    (record { workers = s.workers; answers = s.answers; steps = ap (without_claim job attempt) s.steps ∙ none; waiting = s.waiting; asked = s.asked }) s.alone outcome (job_of w job) refl

-- steps leave the line
line_claimed : (w : World Query) (job attempt : ℕ) (found : Option Submitted) → (claimed w job attempt found).line ≡ w.line
line_claimed w job attempt None = refl
line_claimed w job attempt (Some s) = refl

pub line-claim : (w : World Query) (job attempt : ℕ) → (step cube w (Claims job attempt)).line ≡ w.line
line-claim w job attempt = line_claimed w job attempt (job_of w job)

line_ended_as : (e : Ended) (w : World Query) (job : ℕ) (s : Submitted) → (ended_as e w job s).line ≡ w.line
line_ended_as ended.Stale w job s = refl
line_ended_as ended.Advanced w job s = refl
line_ended_as ended.Finished w job s = refl
line_ended_as ended.Failed w job s = refl

line_ended : (w : World Query) (job attempt : ℕ) (outcome : Outcome) (found : Option Submitted) → (step_ended w job attempt outcome found).line ≡ w.line
line_ended w job attempt outcome None = refl
line_ended w job attempt outcome (Some s) = line_ended_as (end_by outcome s.job attempt) w job s

pub line-end : (w : World Query) (job attempt : ℕ) (outcome : Outcome) → (step cube w (StepEnds job attempt outcome)).line ≡ w.line
line-end w job attempt outcome = line_ended (record w { steps = without_claim job attempt w.steps }) job attempt outcome (job_of w job)
