-- The calls of a hand, and the ends of the steps that they were made for.
use Rattle.std.specs.Prelude.{◌≡◌, ◌≤◌, ◌==◌, ◌&&◌, ℕ, Bool, true, false, List, [], ◌∷◌, ◌++◌, All, Some, count_by}
use Rattle.outside.specs.Hands.{Call}
use Rattle.run_history.specs.Commands.{Turn}
use Rattle.run_history.specs.Commands.Turn.{Takes, Claims, StepEnds, QueryTakes, QueryEnds}
use Rattle.run_history.specs.Cubes.{CubeSemantics}
use Rattle.run_history.specs.Steps.{world}
use Rattle.run_history.specs.World.{Submitted, job_of, next_task}
use Rattle.run_history.specs.declared.event.Outcome.{Outcome}
use Rattle.step_outcomes.specs.Ends.{is_no_memory}

abbrev pub is_call_of : ℕ → ℕ → Call → Bool
is_call_of job attempt call = (call.job == job) && (call.attempt == attempt)

abbrev pub calls_of : ℕ → ℕ → List Call → ℕ
calls_of job attempt calls = count_by (is_call_of job attempt) calls

module _ {Query : Type 0} where
  -- the end of this attempt of this job, with an outcome that passes the test
  abbrev pub is_end_of : (Outcome → Bool) → ℕ → ℕ → Turn Query → Bool
  is_end_of test job attempt (StepEnds ended number outcome) = (ended == job) && (number == attempt) && test outcome
  is_end_of test job attempt (Takes line command) = false
  is_end_of test job attempt (Claims claimed number) = false
  is_end_of test job attempt (QueryTakes line) = false
  is_end_of test job attempt (QueryEnds line out) = false

  -- so many ends this attempt has, and so many whose outcome isn't Memory
  abbrev pub ends_of : ℕ → ℕ → List (Turn Query) → ℕ
  ends_of job attempt turns = count_by (is_end_of (λ outcome. true) job attempt) turns

  abbrev pub answered_ends : ℕ → ℕ → List (Turn Query) → ℕ
  answered_ends job attempt turns = count_by (is_end_of is_no_memory job attempt) turns

-- the task of a call is that of its job's next step in the world before the claim of its attempt
pub record IsTaskOf {Query Answer : Type 0} (cube : CubeSemantics Query Answer) (workers : ℕ) (turns : List (Turn Query)) (call : Call) : Type 0 where
  pub before : List (Turn Query)
  pub later : List (Turn Query)
  pub claimed : turns ≡ before ++ Claims call.job call.attempt ∷ later
  pub job : Submitted
  pub there : job_of (world cube workers [] before) call.job ≡ Some job
  pub task : call.task ≡ next_task cube (world cube workers [] before) job

-- these are the calls of the ends of steps: one at most for each, and one where its outcome isn't Memory; where hands are honest, each with
-- the task of its step
pub record AreCallsOf {Query Answer : Type 0} (cube : CubeSemantics Query Answer) (honest : Type 0) (workers : ℕ) (turns : List (Turn Query)) (calls : List Call) : Type 0 where
  pub at_most : (job attempt : ℕ) → calls_of job attempt calls ≤ ends_of job attempt turns
  pub at_least : (job attempt : ℕ) → answered_ends job attempt turns ≤ calls_of job attempt calls
  pub tasks : honest → All (IsTaskOf cube workers turns) calls
