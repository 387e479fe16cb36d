-- The state of a job, by what last happened to it.
use Rattle.std.proofs.Common.{◌≡◌, ◌≢◌, ℕ, zero, suc, ◌+◌, Bool, true, false, cond, ◌==◌, ◌&&◌, ◌||◌, Option, Some, None, List, [], ◌∷◌, ◌++◌, fold, length, unwrap_or, refl, sym, ap, ◌∙◌, subst, inl, inr, arith}
use Rattle.std.proofs.lemmas.Bool.{eq-eqb, eqb-true, false≢true}
use Rattle.std.specs.Prelude.{find, slice_get}
use Rattle.std.specs.List.{list_any}
use Rattle.coordinator.specs.Served.{served}
use Rattle.job_machine.specs.Job.{Act, JobRecord, is_current, is_last_step, is_running, moved_or_same, new_job, next, state_after}
use Rattle.job_machine.specs.declared.state.Ended.{Ended as EndKind}
use Rattle.job_machine.specs.declared.state.Ended.TheVariants as ended
use Rattle.job_machine.specs.declared.state.JobKind.{JobKind}
use Rattle.job_machine.specs.declared.state.JobState.{JobState}
use Rattle.job_machine.specs.declared.state.JobState.TheVariants as state
use Rattle.plain_answer.specs.declared.ask.Ask.{Ask}
use Rattle.run_history.specs.Commands.{Command, Turn}
use Rattle.run_history.specs.Commands.Command.{Load, Submit, Drop, Steer, Ask as Asks, Note}
use Rattle.run_history.specs.Commands.Turn.{Takes, Claims, StepEnds, QueryTakes, QueryEnds}
use Rattle.run_history.specs.Histories.{AreAtRest, IsLegal, is_empty, is_settled}
use Rattle.run_history.specs.Invariants.{HasSteps, IsStart}
use Rattle.run_history.specs.Sets.{ReadySet}
use Rattle.run_history.specs.Steps.{accepted, by_verdict, claimed, end_by, ended_as, query_ended, query_taken, steered, step, step_ended, with_job, without_claim, world}
use Rattle.run_history.specs.Verdicts.{act_of, steer_by, steer_refusal, verdict}
use Rattle.run_history.specs.World.{Asked, Submitted, Waiting, World, in_force, is_under_way, job_at, job_of, start}
use Rattle.run_history.specs.declared.command.Control.{Control}
use Rattle.run_history.specs.declared.command.Control.TheVariants.{Pause, Resume, Discard}
use Rattle.range_list.specs.Ranges.{Interval}
use Rattle.run_history.specs.declared.event.Outcome.{Outcome}
use Rattle.run_history.specs.declared.event.QueryOut.{QueryOut}
use Rattle.run_history.specs.declared.event.Outcome.TheVariants as outcome
use Rattle.run_history.specs.declared.refused.Refused.{Refused}
use Rattle.job_board.specs.Ledger.{cube}
use Rattle.job_board.proofs.Rest.{all_rest}
use Rattle.run_history.proofs.Flights.{claims_world}
use Rattle.run_history.proofs.Sound.{sound_world}
use Rattle.run_history.proofs.Laws.{job_at-added, job_at-added_other, job_at-with_job, job_at-with_other}
use Rattle.run_transcript.specs.Runs.{lines_taken, turns_of, world_of}
use Rattle.cubes_top.specs.Rests.{IsAtEnd, WholeRunsRest, IsThereBy, Last, claimed_by, moved_by, last_after, last_along, last_by, steered_by, ended_by}
use Rattle.cubes_top.specs.Rests.Last.{Claimed, Ended, Steered}

-- what last happened to a job tells its state
abbrev pub HasRests : ℕ → List Submitted → Option Last → Type 0
HasRests n jobs last = (s : Submitted) → job_at jobs n ≡ Some s → IsThereBy s.job.state last

-- ---- one job changes, or none

same_last : (b : Bool) (last : Option Last) → cond b last last ≡ last
same_last true last = refl
same_last false last = refl

kept : (j n : ℕ) (jobs : List Submitted) (last : Option Last) → HasRests n jobs last → HasRests n jobs (cond (j == n) last last)
kept j n jobs last h s e = subst (IsThereBy s.job.state) (sym (same_last (j == n) last)) (h s e)

set_by : (b : Bool) (j n : ℕ) (jobs : List Submitted) (first t : Submitted) (last new : Option Last) → (j == n) ≡ b → job_at jobs j ≡ Some first → HasRests n jobs last → IsThereBy t.job.state new
    → HasRests n (with_job jobs j t) (cond b new last)
set_by true j n jobs first t last new b e h i s k =
    let here : job_at (with_job jobs j t) j ≡ Some s = ap (job_at (with_job jobs j t)) (eqb-true j n b) ∙ k in
    let there : Some t ≡ Some s = sym (job_at-with_job jobs j first t e) ∙ here in
    let same : t ≡ s = cc in
    subst (λ (x : Submitted). IsThereBy x.job.state new) same i
set_by false j n jobs first t last new b e h i s k =
    h s (sym (job_at-with_other jobs j n first t e (λ m. false≢true (sym b ∙ eq-eqb j n (sym m)))) ∙ k)

set_job : (j n : ℕ) (jobs : List Submitted) (first t : Submitted) (last new : Option Last) → job_at jobs j ≡ Some first → HasRests n jobs last → IsThereBy t.job.state new
    → HasRests n (with_job jobs j t) (cond (j == n) new last)
set_job j n jobs first t last new e h i = set_by (j == n) j n jobs first t last new refl e h i

-- ---- states

-- a state after an act on a job
moved_state : (act : Act) (job : JobRecord) (before after : JobState) → job.state ≡ before → (moved_or_same act (state_after act before) job).state ≡ after → (next act job).state ≡ after
moved_state act job before after e k = ap (λ (st : JobState). (moved_or_same act (state_after act st) job).state) e ∙ k

abbrev claimed_last : JobState → Option Last → Option Last
claimed_last now last = moved_by (state_after Act.Claim now) last

claimed_there : (job : JobRecord) (now : JobState) (last : Option Last) → job.state ≡ now → IsThereBy now last → IsThereBy (next Act.Claim job).state (claimed_last now last)
claimed_there job state.Pending last e h = subst (λ (st : JobState). IsThereBy st (Some Claimed)) (sym (moved_state Act.Claim job state.Pending state.Running e refl)) tt
claimed_there job state.Running last e h = subst (λ (st : JobState). IsThereBy st (Some Claimed)) (sym (moved_state Act.Claim job state.Running state.Running e refl)) tt
claimed_there job state.Error last e h = subst (λ (st : JobState). IsThereBy st last) (sym (moved_state Act.Claim job state.Error state.Error e e)) h
claimed_there job state.Stopped last e h = subst (λ (st : JobState). IsThereBy st last) (sym (moved_state Act.Claim job state.Stopped state.Stopped e e)) h
claimed_there job state.Discarded last e h = subst (λ (st : JobState). IsThereBy st last) (sym (moved_state Act.Claim job state.Discarded state.Discarded e e)) h
claimed_there job state.Finished last e h = subst (λ (st : JobState). IsThereBy st last) (sym (moved_state Act.Claim job state.Finished state.Finished e e)) h

steered_there : (control : Control) (job : JobRecord) (now after : JobState) → job.state ≡ now → state_after (act_of control) now ≡ Some after → IsThereBy (next (act_of control) job).state (Some (Steered control))
steered_there Pause job state.Pending after e k = subst (λ (st : JobState). IsThereBy st (Some (Steered Pause))) (sym (moved_state Act.Pause job state.Pending state.Stopped e refl)) refl
steered_there Pause job state.Running after e k = subst (λ (st : JobState). IsThereBy st (Some (Steered Pause))) (sym (moved_state Act.Pause job state.Running state.Stopped e refl)) refl
steered_there Pause job state.Error after e k = absurd cc
steered_there Pause job state.Stopped after e k = absurd cc
steered_there Pause job state.Discarded after e k = absurd cc
steered_there Pause job state.Finished after e k = absurd cc
steered_there Resume job state.Error after e k = subst (λ (st : JobState). IsThereBy st (Some (Steered Resume))) (sym (moved_state Act.Resume job state.Error state.Pending e refl)) tt
steered_there Resume job state.Stopped after e k = subst (λ (st : JobState). IsThereBy st (Some (Steered Resume))) (sym (moved_state Act.Resume job state.Stopped state.Pending e refl)) tt
steered_there Resume job state.Pending after e k = absurd cc
steered_there Resume job state.Running after e k = absurd cc
steered_there Resume job state.Discarded after e k = absurd cc
steered_there Resume job state.Finished after e k = absurd cc
steered_there Discard job state.Pending after e k = subst (λ (st : JobState). IsThereBy st (Some (Steered Discard))) (sym (moved_state Act.Discard job state.Pending state.Discarded e refl)) refl
steered_there Discard job state.Running after e k = subst (λ (st : JobState). IsThereBy st (Some (Steered Discard))) (sym (moved_state Act.Discard job state.Running state.Discarded e refl)) refl
steered_there Discard job state.Error after e k = subst (λ (st : JobState). IsThereBy st (Some (Steered Discard))) (sym (moved_state Act.Discard job state.Error state.Discarded e refl)) refl
steered_there Discard job state.Stopped after e k = subst (λ (st : JobState). IsThereBy st (Some (Steered Discard))) (sym (moved_state Act.Discard job state.Stopped state.Discarded e refl)) refl
steered_there Discard job state.Discarded after e k = absurd cc
steered_there Discard job state.Finished after e k = absurd cc

running_of : (now : JobState) (rest : Bool) → (is_running now && rest) ≡ true → now ≡ state.Running
running_of state.Running rest e = refl
running_of state.Pending rest e = absurd cc
running_of state.Error rest e = absurd cc
running_of state.Stopped rest e = absurd cc
running_of state.Discarded rest e = absurd cc
running_of state.Finished rest e = absurd cc

is_now_running : (job : JobRecord) (attempt : ℕ) → is_current job attempt ≡ true → job.state ≡ state.Running
is_now_running job attempt e = running_of job.state (job.in_flight && (job.attempt == attempt)) e

-- ---- turns

claimed_rests : (w : World Ask) (j attempt n : ℕ) (found : Option Submitted) (last : Option Last) → job_of w j ≡ found → HasRests n w.jobs last
    → HasRests n (claimed w j attempt found).jobs (cond (j == n) (claimed_by found last) last)
claimed_rests w j attempt n None last e h = kept j n w.jobs last h
claimed_rests w j attempt n (Some first) last e h = by_here (j == n) refl where
  here : (j == n) ≡ true → IsThereBy first.job.state last
  here b = h first (ap (job_of w) (sym (eqb-true j n b)) ∙ e)

  by_here : (b : Bool) → (j == n) ≡ b → HasRests n (claimed w j attempt (Some first)).jobs (cond (j == n) (claimed_by (Some first) last) last)
  by_here true b = set_job j n w.jobs first (record first { job = next Act.Claim first.job; tables = Some (unwrap_or first.tables (in_force w)) }) last (claimed_by (Some first) last) e h
      (claimed_there first.job first.job.state last refl (here b))
  by_here false b = λ s k. subst (λ (x : Bool). IsThereBy s.job.state (cond x (claimed_by (Some first) last) last)) (sym b)
      (h s (sym (job_at-with_other w.jobs j n first (record first { job = next Act.Claim first.job; tables = Some (unwrap_or first.tables (in_force w)) }) e (λ m. false≢true (sym b ∙ eq-eqb j n (sym m)))) ∙ k))

-- what an end is to a job, where it is that of the attempt in flight or not
abbrev end_if : Bool → Outcome → JobRecord → EndKind
end_if true outcome.Done job = cond (is_last_step job) ended.Finished ended.Advanced
end_if false outcome.Done job = ended.Stale
end_if true _ job = ended.Failed
end_if false _ job = ended.Stale

failed : (o : Outcome) (w : World Ask) (j attempt n : ℕ) (first : Submitted) (last : Option Last) → is_current first.job attempt ≡ true → job_of w j ≡ Some first → HasRests n w.jobs last
    → o ≢ outcome.Done → HasRests n (ended_as ended.Failed w j first).jobs (cond (j == n) (Some (Ended o)) last)
failed o w j attempt n first last c e h bad =
    set_job j n w.jobs first (record first { job = next Act.Fail first.job }) last (Some (Ended o)) e h
    (subst (λ (st : JobState). IsThereBy st (Some (Ended o))) (sym (moved_state Act.Fail first.job state.Running state.Error (is_now_running first.job attempt c) refl)) (o, refl, bad))

ended_cases : (current : Bool) (o : Outcome) (w : World Ask) (j attempt n : ℕ) (first : Submitted) (last : Option Last) → is_current first.job attempt ≡ current → job_of w j ≡ Some first → HasRests n w.jobs last
    → HasRests n (ended_as (end_if current o first.job) w j first).jobs (cond (j == n) (cond current (Some (Ended o)) last) last)
ended_cases false o w j attempt n first last c e h = by_outcome o where
  by_outcome : (o : Outcome) → HasRests n (ended_as (end_if false o first.job) w j first).jobs (cond (j == n) last last)
  by_outcome outcome.Done = kept j n w.jobs last h
  by_outcome outcome.NotStarted = kept j n w.jobs last h
  by_outcome (outcome.Ended status) = kept j n w.jobs last h
  by_outcome outcome.Killed = kept j n w.jobs last h
  by_outcome outcome.NoFile = kept j n w.jobs last h
  by_outcome outcome.Damaged = kept j n w.jobs last h
  by_outcome outcome.Memory = kept j n w.jobs last h
ended_cases true outcome.Done w j attempt n first last c e h = by_last (is_last_step first.job) where
  by_last : (b : Bool) → HasRests n (ended_as (cond b ended.Finished ended.Advanced) w j first).jobs (cond (j == n) (Some (Ended outcome.Done)) last)
  by_last true = set_job j n w.jobs first (record first { job = next Act.Finish first.job }) last (Some (Ended outcome.Done)) e h
      (subst (λ (st : JobState). IsThereBy st (Some (Ended outcome.Done))) (sym (moved_state Act.Finish first.job state.Running state.Finished (is_now_running first.job attempt c) refl)) tt)
  by_last false = set_job j n w.jobs first (record first { job = next Act.Advance first.job }) last (Some (Ended outcome.Done)) e h
      (subst (λ (st : JobState). IsThereBy st (Some (Ended outcome.Done))) (sym (moved_state Act.Advance first.job state.Running state.Running (is_now_running first.job attempt c) refl)) tt)
ended_cases true outcome.NotStarted w j attempt n first last c e h = failed outcome.NotStarted w j attempt n first last c e h (λ k. cc)
ended_cases true (outcome.Ended status) w j attempt n first last c e h = failed (outcome.Ended status) w j attempt n first last c e h (λ k. cc)
ended_cases true outcome.Killed w j attempt n first last c e h = failed outcome.Killed w j attempt n first last c e h (λ k. cc)
ended_cases true outcome.NoFile w j attempt n first last c e h = failed outcome.NoFile w j attempt n first last c e h (λ k. cc)
ended_cases true outcome.Damaged w j attempt n first last c e h = failed outcome.Damaged w j attempt n first last c e h (λ k. cc)
ended_cases true outcome.Memory w j attempt n first last c e h = failed outcome.Memory w j attempt n first last c e h (λ k. cc)

end_is : (current : Bool) (o : Outcome) (job : JobRecord) (attempt : ℕ) → is_current job attempt ≡ current → end_by o job attempt ≡ end_if current o job
end_is true outcome.Done job attempt e = ap (λ (b : Bool). cond b (cond (is_last_step job) ended.Finished ended.Advanced) ended.Stale) e
end_is false outcome.Done job attempt e = ap (λ (b : Bool). cond b (cond (is_last_step job) ended.Finished ended.Advanced) ended.Stale) e
end_is true outcome.NotStarted job attempt e = ap (λ (b : Bool). cond b ended.Failed ended.Stale) e
end_is false outcome.NotStarted job attempt e = ap (λ (b : Bool). cond b ended.Failed ended.Stale) e
end_is true (outcome.Ended status) job attempt e = ap (λ (b : Bool). cond b ended.Failed ended.Stale) e
end_is false (outcome.Ended status) job attempt e = ap (λ (b : Bool). cond b ended.Failed ended.Stale) e
end_is true outcome.Killed job attempt e = ap (λ (b : Bool). cond b ended.Failed ended.Stale) e
end_is false outcome.Killed job attempt e = ap (λ (b : Bool). cond b ended.Failed ended.Stale) e
end_is true outcome.NoFile job attempt e = ap (λ (b : Bool). cond b ended.Failed ended.Stale) e
end_is false outcome.NoFile job attempt e = ap (λ (b : Bool). cond b ended.Failed ended.Stale) e
end_is true outcome.Damaged job attempt e = ap (λ (b : Bool). cond b ended.Failed ended.Stale) e
end_is false outcome.Damaged job attempt e = ap (λ (b : Bool). cond b ended.Failed ended.Stale) e
end_is true outcome.Memory job attempt e = ap (λ (b : Bool). cond b ended.Failed ended.Stale) e
end_is false outcome.Memory job attempt e = ap (λ (b : Bool). cond b ended.Failed ended.Stale) e

ended_rests : (w : World Ask) (j attempt n : ℕ) (o : Outcome) (found : Option Submitted) (last : Option Last) → job_of w j ≡ found → HasRests n w.jobs last
    → HasRests n (step_ended w j attempt o found).jobs (cond (j == n) (ended_by found attempt o last) last)
ended_rests w j attempt n o None last e h = kept j n w.jobs last h
ended_rests w j attempt n o (Some first) last e h =
    subst (λ (end : EndKind). HasRests n (ended_as end w j first).jobs (cond (j == n) (cond (is_current first.job attempt) (Some (Ended o)) last) last))
    (sym (end_is (is_current first.job attempt) o first.job attempt refl)) (ended_cases (is_current first.job attempt) o w j attempt n first last refl e h)

-- commands
submit_rests : (refusal : Option Refused) (steps line n : ℕ) (w : World Ask) (kind : JobKind) (range : Interval) (last : Option Last) → HasRests n w.jobs last
    → HasRests n (by_verdict refusal steps (record w { line = line }) (Submit kind range)).jobs last
submit_rests (Some refused) steps line n w kind range last h = h
submit_rests None steps line n w kind range last h = by_place (n == (length w.jobs + 1)) refl where
  by_place : (b : Bool) → (n == (length w.jobs + 1)) ≡ b → HasRests n (w.jobs ++ record { job = new_job (length w.jobs + 1) kind steps; range = range; tables = None } ∷ []) last
  by_place true b s k =
      let one : Submitted = record { job = new_job (length w.jobs + 1) kind steps; range = range; tables = None } in
      let here : job_at (w.jobs ++ one ∷ []) (length w.jobs + 1) ≡ Some s = ap (job_at (w.jobs ++ one ∷ [])) (sym (eqb-true n (length w.jobs + 1) b)) ∙ k in
      let there : Some one ≡ Some s = sym (job_at-added w.jobs one) ∙ here in
      let same : one ≡ s = cc in
      subst (λ (x : Submitted). IsThereBy x.job.state last) same tt
  by_place false b s k =
      let one : Submitted = record { job = new_job (length w.jobs + 1) kind steps; range = range; tables = None } in
      h s (sym (job_at-added_other w.jobs one n (λ m. false≢true (sym b ∙ eq-eqb n (length w.jobs + 1) m))) ∙ k)

other_rests : (refusal : Option Refused) (steps line n : ℕ) (w : World Ask) (command : Command Ask) (last : Option Last) → HasRests n w.jobs last
    → (accepted steps (record w { line = line }) command).jobs ≡ w.jobs → HasRests n (by_verdict refusal steps (record w { line = line }) command).jobs last
other_rests (Some refused) steps line n w command last h e = h
other_rests None steps line n w command last h e = subst (λ (jobs : List Submitted). HasRests n jobs last) (sym e) h

steer_moved : (to : Option JobState) (steps line j n : ℕ) (w : World Ask) (control : Control) (first : Submitted) (last : Option Last) → state_after (act_of control) first.job.state ≡ to
    → job_of w j ≡ Some first → HasRests n w.jobs last
    → HasRests n (by_verdict (steer_by first.job.state to) steps (record w { line = line }) (Steer control j)).jobs (cond (j == n) (steered_by (steer_by first.job.state to) control last) last)
steer_moved None steps line j n w control first last k e h = kept j n w.jobs last h
steer_moved (Some after) steps line j n w control first last k e h =
    subst (λ (found : Option Submitted). HasRests n (steered (record w { line = line }) control j found).jobs (cond (j == n) (Some (Steered control)) last)) (sym e)
    (set_job j n w.jobs first (record first { job = next (act_of control) first.job }) last (Some (Steered control)) e h (steered_there control first.job first.job.state after refl k))

steer_found : (found : Option Submitted) (steps line j n : ℕ) (w : World Ask) (control : Control) (last : Option Last) → job_of w j ≡ found → HasRests n w.jobs last
    → HasRests n (by_verdict (steer_refusal control j found) steps (record w { line = line }) (Steer control j)).jobs (cond (j == n) (steered_by (steer_refusal control j found) control last) last)
steer_found None steps line j n w control last e h = kept j n w.jobs last h
steer_found (Some first) steps line j n w control last e h = steer_moved (state_after (act_of control) first.job.state) steps line j n w control first last refl e h

command_rests : (w : World Ask) (line n : ℕ) (command : Command Ask) (last : Option Last) → HasRests n w.jobs last → HasRests n (step cube w (Takes line command)).jobs (last_by w command n last)
command_rests w line n (Load place rows) last h = other_rests (verdict cube w (Load place rows)) 0 line n w (Load place rows) last h refl
command_rests w line n (Submit kind range) last h = submit_rests (verdict cube w (Submit kind range)) (cube.steps kind) line n w kind range last h
command_rests w line n (Drop range) last h = other_rests (verdict cube w (Drop range)) 0 line n w (Drop range) last h refl
command_rests w line n (Steer control job) last h = steer_found (job_of w job) 0 line job n w control last refl h
command_rests w line n (Asks session query) last h = other_rests (verdict cube w (Asks session query)) 0 line n w (Asks session query) last h refl
command_rests w line n (Note noted) last h = other_rests (verdict cube w (Note noted)) 0 line n w (Note noted) last h refl

taken_rests : (w : World Ask) (line n : ℕ) (found : Option (Waiting Ask)) (last : Option Last) → HasRests n w.jobs last → HasRests n (query_taken w line found).jobs last
taken_rests w line n None last h = h
taken_rests w line n (Some q) last h = h

answered_rests : (w : World Ask) (line n : ℕ) (out : QueryOut) (found : Option (Asked Ask)) (last : Option Last) → HasRests n w.jobs last → HasRests n (query_ended w line out found).jobs last
answered_rests w line n out None last h = h
answered_rests w line n out (Some q) last h = h

turn_rests : (w : World Ask) (turn : Turn Ask) (n : ℕ) (last : Option Last) → HasRests n w.jobs last → HasRests n (step cube w turn).jobs (last_after w turn n last)
turn_rests w (Takes line command) n last h = command_rests w line n command last h
turn_rests w (Claims job attempt) n last h = claimed_rests w job attempt n (job_of w job) last refl h
turn_rests w (StepEnds job attempt o) n last h = ended_rests (record w { steps = without_claim job attempt w.steps }) job attempt n o (job_of w job) last refl h
turn_rests w (QueryTakes line) n last h = taken_rests w line n (find (λ q. q.line == line) w.waiting) last h
turn_rests w (QueryEnds line out) n last h = answered_rests w line n out (find (λ q. q.waiting.line == line) w.asked) last h

-- over all turns
pub rests-along : (w : World Ask) (turns : List (Turn Ask)) (n : ℕ) (last : Option Last) → HasRests n w.jobs last → HasRests n (fold (step cube) w turns).jobs (last_along w turns n last)
rests-along w [] n last h = h
rests-along w (turn ∷ turns) n last h = rests-along (step cube w turn) turns n (last_after w turn n last) (turn_rests w turn n last h)

-- ---- where nothing is left to do

and_parts : (a b : Bool) → (a && b) ≡ true → (a ≡ true) × (b ≡ true)
and_parts true b h = (refl, h)
and_parts false b h = absurd cc

nothing_left : {A : Type 0} (xs : List A) → is_empty xs ≡ true → xs ≡ []
nothing_left [] h = refl
nothing_left (x ∷ xs) h = absurd cc

no_jobs : (n : ℕ) (last : Option Last) → HasRests n [] last
no_jobs zero last s e = absurd cc
no_jobs (suc n) last s e = absurd cc

none_at : (test : Submitted → Bool) (jobs : List Submitted) (k : ℕ) (s : Submitted) → list_any test jobs ≡ false → slice_get jobs k ≡ Some s → test s ≡ false
none_at test [] k s h e = absurd cc
none_at test (first ∷ jobs) zero s h e =
    let same : first ≡ s = cc in
    subst (λ (x : Submitted). test x ≡ false) same (none_first (test first) (list_any test jobs) h)
  where
    none_first : (a b : Bool) → (a || b) ≡ false → a ≡ false
    none_first true b k = absurd cc
    none_first false b k = refl
none_at test (first ∷ jobs) (suc k) s h e = none_at test jobs k s (none_later (test first) (list_any test jobs) h) e where
  none_later : (a b : Bool) → (a || b) ≡ false → b ≡ false
  none_later true b k = absurd cc
  none_later false b k = k

at_end : (now : JobState) (last : Option Last) → IsThereBy now last → is_under_way now ≡ false → IsAtEnd now last
at_end state.Pending last h u = absurd cc
at_end state.Running last h u = absurd cc
at_end state.Error last h u = inr (inr (inr h))
at_end state.Stopped last h u = inr (inl h)
at_end state.Discarded last h u = inr (inr (inl h))
at_end state.Finished last h u = inl refl

at_rest : (jobs : List Submitted) (n : ℕ) (s : Submitted) → AreAtRest jobs → job_at jobs n ≡ Some s → is_under_way s.job.state ≡ false
at_rest jobs zero s h e = absurd cc
at_rest jobs (suc k) s h e = none_at (λ (t : Submitted). is_under_way t.job.state) jobs k s h e

has_steps : HasSteps cube
has_steps kind = omega arith

-- each job of a run after which nothing is left to do
pub settled-rests : (workers : ℕ) (initial : ReadySet) (turns : List (Turn Ask)) → IsStart initial → IsLegal cube workers initial turns → is_settled (world cube workers initial turns) ≡ true → (n : ℕ) (s : Submitted)
    → job_of (world cube workers initial turns) n ≡ Some s → IsAtEnd s.job.state (last_along (start workers (length cube.tables) initial) turns n None)
settled-rests workers initial turns starts legal settled n s e =
    let w = world cube workers initial turns in
    let last = and_parts (is_empty w.queue && is_empty w.steps && is_empty w.waiting) (is_empty w.asked) settled in
    let third = and_parts (is_empty w.queue && is_empty w.steps) (is_empty w.waiting) last.0 in
    let second = and_parts (is_empty w.queue) (is_empty w.steps) third.0 in
    let rest = all_rest w (sound_world cube has_steps workers initial turns starts legal) (claims_world cube has_steps workers initial turns starts legal) (nothing_left w.queue second.0) (nothing_left w.steps second.1) in
    at_end s.job.state (last_along (start workers (length cube.tables) initial) turns n None)
    (rests-along (start workers (length cube.tables) initial) turns n None (no_jobs n None) s e) (at_rest w.jobs n s rest e)

pub whole-rests : WholeRunsRest
whole-rests inputs history starts whole n s e =
    let settled = and_parts (length (lines_taken history) == length inputs.script) (is_settled (world_of served inputs history)) whole.whole in
    settled-rests inputs.workers inputs.ready (turns_of served inputs history) starts whole.legal.allowed settled.1 n s e
