-- How the outcomes of steps follow the faults that attempts meet, where a hand tells them.
use Rattle.std.specs.Prelude.{◌≡◌, ◌⊎◌, ⊤, ℕ, true, false, List, Contains, Option, Some, None}
use Rattle.fixed_state.specs.Ends.{outcome_of}
use Rattle.outside.specs.Hands.{Fail, fault_for}
use Rattle.outside.specs.declared.hand.HandFault.{HandFault}
use Rattle.run_history.specs.declared.event.Event.{Event}
use Rattle.run_history.specs.declared.event.Event.TheVariants as event
use Rattle.run_history.specs.declared.event.Outcome.{Outcome}
use Rattle.run_history.specs.declared.event.Outcome.TheVariants as outcome
use Rattle.step_outcomes.specs.Ends.{is_fault}

-- the end of an attempt that meets this fault, or none: with no fault it is Done, Damaged or Memory. Memory may stand in place of a fault
abbrev pub EndsBy : Option HandFault → Outcome → Type 0
EndsBy None ended = is_fault ended ≡ false
EndsBy (Some fault) ended = (ended ≡ outcome_of fault) ⊎ (ended ≡ outcome.Memory)

-- each end of a step is by the first of these faults for its attempt, or by none where there is none
abbrev pub IsEndBy : List Fail → Event → Type 0
IsEndBy fails (event.StepEnd job attempt outcome) = EndsBy (fault_for job attempt fails) outcome
IsEndBy fails (event.Command line) = ⊤
IsEndBy fails (event.Claim job attempt) = ⊤
IsEndBy fails (event.QueryTake line) = ⊤
IsEndBy fails (event.QueryEnd line out) = ⊤

-- this fault for this attempt of this job
pub record IsFailOf (job attempt : ℕ) (outcome : Outcome) (fail : Fail) : Type 0 where
  pub job_is : fail.job ≡ job
  pub attempt_is : fail.attempt ≡ attempt
  pub fault_is : outcome_of fail.fault ≡ outcome

-- a step's end with a hand's fault has it among these, for its job and attempt
abbrev pub StandsAmong : List Fail → Event → Type 0
StandsAmong fails (event.StepEnd job attempt outcome) = is_fault outcome ≡ true → (fail : Fail) × Contains fails fail × IsFailOf job attempt outcome fail
StandsAmong fails (event.Command line) = ⊤
StandsAmong fails (event.Claim job attempt) = ⊤
StandsAmong fails (event.QueryTake line) = ⊤
StandsAmong fails (event.QueryEnd line out) = ⊤
