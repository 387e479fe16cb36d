-- The world after a turn.
use Rattle.std.specs.Prelude.{ℕ, ◌+◌, ◌-◌, not, ◌&&◌, ◌==◌, List, [], ◌∷◌, ◌++◌, drop, filter, find, fold, length, Option, Some, None, slice_set, unwrap_or, if◌then◌else◌}
use Rattle.job_machine.specs.Job.{Act, JobRecord, next, new_job, ended_ok, ended_failed}
use Rattle.job_machine.specs.declared.state.Ended.{Ended}
use Rattle.job_machine.specs.declared.state.Ended.TheVariants as ended
use Rattle.job_machine.specs.declared.state.JobKind.{JobKind}
use Rattle.range_list.specs.Ranges.{Interval}
use Rattle.run_history.specs.Commands.{Command, Turn}
use Rattle.run_history.specs.Commands.Command.{Load, Submit, Drop, Steer, Ask, Note}
use Rattle.run_history.specs.Commands.Turn.{Takes, Claims, StepEnds, QueryTakes, QueryEnds}
use Rattle.run_history.specs.Cubes.{CubeSemantics}
use Rattle.run_history.specs.Sets.{ReadySet, dropped, swapped}
use Rattle.run_history.specs.Verdicts.{act_of, verdict}
use Rattle.run_history.specs.World.{Asked, Submitted, Waiting, World, in_force, job_of, number, origin_of, start}
use Rattle.run_history.specs.declared.command.Control.{Control}
use Rattle.run_history.specs.declared.command.Control.TheVariants.{Pause, Resume, Discard}
use Rattle.run_history.specs.declared.event.Outcome.{Outcome}
use Rattle.run_history.specs.declared.event.Outcome.TheVariants.{Done}
use Rattle.run_history.specs.declared.event.QueryOut.{QueryOut}
use Rattle.run_history.specs.declared.event.QueryOut.TheVariants.{Answered, Memory as NoAnswer}
use Rattle.run_history.specs.declared.refused.Refused.{Refused}

-- the numbers without one, in their order
abbrev pub without : ℕ → List ℕ → List ℕ
without number queue = filter (λ other. not (other == number)) queue

-- the claims without the first one of this job and attempt
abbrev pub without_claim : ℕ → ℕ → List (ℕ × ℕ) → List (ℕ × ℕ)
without_claim job attempt [] = []
without_claim job attempt (claim ∷ rest) =
    if (claim.0 == job) && (claim.1 == attempt) then rest else claim ∷ without_claim job attempt rest

-- the queue after a job was steered
abbrev pub steered_queue : Control → ℕ → List ℕ → List ℕ
steered_queue Pause number queue = without number queue
steered_queue Discard number queue = without number queue
steered_queue Resume number queue = queue ++ number ∷ []

-- the jobs with another record of one of them
abbrev pub with_job : List Submitted → ℕ → Submitted → List Submitted
with_job jobs job s = slice_set jobs (job - 1) s

-- what an outcome is to the job
abbrev pub end_by : Outcome → JobRecord → ℕ → Ended
end_by Done job attempt = ended_ok job attempt
end_by _ job attempt = ended_failed job attempt

-- the versions of the sessions' last answers after an end
abbrev pub answered_as : QueryOut → ℕ → (ℕ → ℕ) → ℕ → ℕ
answered_as (Answered version) session before other = if other == session then version else before other
answered_as NoAnswer session before other = before other

module _ {Query : Type 0} where
  -- ready sets with a next one
  abbrev pub with_set : World Query → ReadySet → World Query
  with_set w set = record w { past = w.past ++ w.ready ∷ []; ready = set }

  -- commands
  abbrev pub submitted : World Query → JobKind → ℕ → Interval → World Query
  submitted w kind steps range = record w {
    jobs = w.jobs ++ record { job = new_job (length w.jobs + 1) kind steps; range = range; tables = None } ∷ [];
    queue = w.queue ++ (length w.jobs + 1) ∷ [];
  }

  abbrev pub steered : World Query → Control → ℕ → Option Submitted → World Query
  steered w control number None = w
  steered w control number (Some s) = record w {
    jobs = with_job w.jobs number (record s { job = next (act_of control) s.job });
    queue = steered_queue control number w.queue;
  }

  abbrev pub accepted : ℕ → World Query → Command Query → World Query
  accepted steps w (Load table rows) = record w { loaded = slice_set w.loaded table (Some rows) }
  accepted steps w (Submit kind range) = submitted w kind steps range
  accepted steps w (Drop range) = with_set w (dropped range w.ready)
  accepted steps w (Steer control number) = steered w control number (job_of w number)
  accepted steps w (Ask session query) = record w {
    waiting = w.waiting ++ record { line = w.line; session = session; query = query; at_command = number w } ∷ [];
    accepted = w.accepted + 1;
  }
  accepted steps w (Note noted) = w

  -- claims
  abbrev pub claimed : World Query → ℕ → ℕ → Option Submitted → World Query
  claimed w number attempt None = w
  claimed w number attempt (Some s) = record w {
    jobs = with_job w.jobs number (record s { job = next Act.Claim s.job; tables = Some (unwrap_or s.tables (in_force w)) });
    queue = drop 1 w.queue;
    steps = w.steps ++ (number, attempt) ∷ [];
  }

  -- ends of steps: a stale one has no effect, and the success of a last step swaps the job's segment in
  abbrev pub ended_as : Ended → World Query → ℕ → Submitted → World Query
  ended_as ended.Stale w number s = w
  ended_as ended.Advanced w number s = record w {
    jobs = with_job w.jobs number (record s { job = next Act.Advance s.job });
    queue = w.queue ++ number ∷ [];
  }
  ended_as ended.Finished w number s =
      with_set (record w { jobs = with_job w.jobs number (record s { job = next Act.Finish s.job }) })
      (swapped (record { range = s.range; job = number; origin = origin_of w s }) w.ready)
  ended_as ended.Failed w number s = record w { jobs = with_job w.jobs number (record s { job = next Act.Fail s.job }) }

  abbrev pub step_ended : World Query → ℕ → ℕ → Outcome → Option Submitted → World Query
  step_ended w number attempt outcome None = w
  step_ended w number attempt outcome (Some s) = ended_as (end_by outcome s.job attempt) w number s

  -- queries
  abbrev pub query_taken : World Query → ℕ → Option (Waiting Query) → World Query
  query_taken w line None = w
  query_taken w line (Some q) = record w {
    waiting = filter (λ other. not (other.line == line)) w.waiting;
    asked = w.asked ++ record { waiting = q; at_take = number w } ∷ [];
  }

  abbrev pub query_ended : World Query → ℕ → QueryOut → Option (Asked Query) → World Query
  query_ended w line out None = w
  query_ended w line out (Some q) = record w {
    asked = filter (λ other. not (other.waiting.line == line)) w.asked;
    answered = answered_as out q.waiting.session w.answered;
  }

  -- the command of a line took effect, accepted or refused
  abbrev pub by_verdict : Option Refused → ℕ → World Query → Command Query → World Query
  by_verdict (Some refused) steps w command = w
  by_verdict None steps w command = accepted steps w command

-- how many steps a submitted job has; 0 at other commands
abbrev pub steps_of : {Query Answer : Type 0} → CubeSemantics Query Answer → Command Query → ℕ
steps_of cube (Submit kind range) = cube.steps kind
steps_of cube _ = 0

abbrev pub took : {Query Answer : Type 0} → CubeSemantics Query Answer → World Query → ℕ → Command Query → World Query
took cube w line command = by_verdict (verdict cube w command) (steps_of cube command) (record w { line = line }) command

-- the world after a turn
abbrev pub step : {Query Answer : Type 0} → CubeSemantics Query Answer → World Query → Turn Query → World Query
step cube w (Takes line command) = took cube w line command
step cube w (Claims job attempt) = claimed w job attempt (job_of w job)
step cube w (StepEnds job attempt outcome) =
    step_ended (record w { steps = without_claim job attempt w.steps }) job attempt outcome (job_of w job)
step cube w (QueryTakes line) = query_taken w line (find (λ q. q.line == line) w.waiting)
step cube w (QueryEnds line out) = query_ended w line out (find (λ q. q.waiting.line == line) w.asked)

-- the world after some turns from this ready set on
abbrev pub world : {Query Answer : Type 0} → CubeSemantics Query Answer → ℕ → ReadySet → List (Turn Query) → World Query
world cube workers initial turns = fold (step cube) (start workers (length cube.tables) initial) turns
