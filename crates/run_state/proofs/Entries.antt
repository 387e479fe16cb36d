-- One job of a state, and the same job of the world.
use Rattle.std.proofs.Common.{◌≡◌, ℕ, zero, suc, ◌+◌, Bool, true, false, cond, not, ◌||◌, ◌==◌, Option, Some, None, Result, Ok, Err, List, [], ◌∷◌, map, slice_get, refl, ap, ◌∙◌, subst, arith}
use Rattle.std.specs.Prelude.{option_map}
use Rattle.std.proofs.lemmas.Option.{slice_get-map}
use Rattle.job_list.specs.JobList.{has, without}
use Rattle.job_machine.specs.Job.{Act, JobRecord, answer_by, moved, moved_or_same, refusal_in}
use Rattle.job_machine.specs.Job.Act.{Claim, Advance, Finish, Fail, Pause, Resume, Discard}
use Rattle.job_machine.specs.declared.state.JobState.{JobState}
use Rattle.job_machine.specs.declared.state.JobState.TheVariants.{Pending, Running, Error, Stopped, Discarded, Finished}
use Rattle.run_history.specs.Cubes.{Rows}
use Rattle.run_history.specs.Verdicts.{state_refusal}
use Rattle.run_history.specs.World.{Submitted, job_at}
use Rattle.run_history.specs.declared.refused.Refused.{Refused}
use Rattle.run_state.specs.Answers.{refused_by, told, without_stop}
use Rattle.run_state.specs.States.{entry_at, submitted_of}
use Rattle.run_state.specs.declared.parts.Controlled.{Controlled}
use Rattle.run_state.specs.declared.parts.JobEntry.{JobEntry}

-- ---- the job of a number

pub entry_place : {X : Type 0} (xs : List X) (number place : ℕ) → place + 1 ≡ number → entry_at xs number ≡ slice_get xs place
entry_place xs number place e = let same : suc place ≡ number = omega arith in subst (λ (n : ℕ). entry_at xs n ≡ slice_get xs place) same refl

pub job_place : (jobs : List Submitted) (number place : ℕ) → place + 1 ≡ number → job_at jobs number ≡ slice_get jobs place
job_place jobs number place e = let same : suc place ≡ number = omega arith in subst (λ (n : ℕ). job_at jobs n ≡ slice_get jobs place) same refl

-- a job of a state is the world's
pub job_there : {T P : Type 0} (rows : T → Rows) (entries : List (JobEntry T P)) (number place : ℕ) (entry : JobEntry T P) → place + 1 ≡ number → slice_get entries place ≡ Some entry
    → job_at (map (submitted_of rows) entries) number ≡ Some (submitted_of rows entry)
job_there rows entries number place entry e at = job_place (map (submitted_of rows) entries) number place e ∙ (slice_get-map (submitted_of rows) entries place ∙ ap (option_map (submitted_of rows)) at)

pub job_absent : {T P : Type 0} (rows : T → Rows) (entries : List (JobEntry T P)) (number : ℕ) → entry_at entries number ≡ None → job_at (map (submitted_of rows) entries) number ≡ None
job_absent rows entries zero h = refl
job_absent rows entries (suc place) h = slice_get-map (submitted_of rows) entries place ∙ ap (option_map (submitted_of rows)) h

-- ---- commands on a job

refused_state : (state : JobState) → refused_by (refusal_in state) ≡ state_refusal state
refused_state Pending = refl
refused_state Running = refl
refused_state Error = refl
refused_state Stopped = refl
refused_state Discarded = refl
refused_state Finished = refl

moved_state : (act : Act) (state : JobState) (job : JobRecord) → (moved act state job).state ≡ state
moved_state Claim state job = refl
moved_state Advance state job = refl
moved_state Finish state job = refl
moved_state Fail state job = refl
moved_state Pause state job = refl
moved_state Resume state job = refl
moved_state Discard state job = refl

abbrev pub told_by : Option JobState → Option ℕ → JobState → Result Controlled Refused
told_by (Some after) stop before = Ok (record { state = after; stop = stop })
told_by None stop before = Err (state_refusal before)

-- what the machine answers is what is told
pub told_is : (act : Act) (after : Option JobState) (stop : Option ℕ) (job : JobRecord) → told (answer_by after stop job.state) (moved_or_same act after job).state ≡ told_by after stop job.state
told_is act None stop job = ap Err (refused_state job.state)
told_is act (Some after) stop job = ap (λ (s : JobState). Ok (record { state = s; stop = stop })) (moved_state act after job)

pub no_stop : (after : Option JobState) (before : JobState) → without_stop (answer_by after tt before) ≡ answer_by after None before
no_stop None before = refl
no_stop (Some after) before = refl

-- a number that isn't in a list
pub without_absent : (id : ℕ) (items : List ℕ) → has items id ≡ false → items ≡ without id items
without_absent id [] h = refl
without_absent id (item ∷ items) h = by_test (item == id) (without_absent id items) h
  where
    by_test : (b : Bool) → (has items id ≡ false → items ≡ without id items) → b || has items id ≡ false → item ∷ items ≡ cond (not b) (item ∷ without id items) (without id items)
    by_test true rest h = cc
    by_test false rest h = ap (λ l. item ∷ l) (rest h)
