-- What the coordinator keeps of the hand between two turns.
use Rattle.std.specs.Prelude.{◌≡◌, ◌≢◌, ◌⊎◌, ◌++◌, List, All, Option, Some, map, option_map}
use Rattle.job_board.specs.Ledger.{cube}
use Rattle.job_board.specs.BoardModel.{BoardModel, turns}
use Rattle.job_board.specs.declared.answers.Work.{Work}
use Rattle.outside.specs.Hands.{Call, Fail, call_of, fault_for, with_call}
use Rattle.run_history.specs.Commands.{event_of}
use Rattle.run_history.specs.declared.event.Outcome.{Outcome}
use Rattle.run_history.specs.declared.event.Outcome.TheVariants as outcome
use Rattle.step_outcomes.specs.Calls.{AreCallsOf}
use Rattle.step_outcomes.specs.Ends.{IsUndamaged}
use Rattle.step_outcomes.specs.Faults.{EndsBy, IsEndBy}

-- what a hand did for the end of a step
pub record HasRun {H : Type 0} (honest : Type 0) (fails : H → Option (List Fail)) (calls : H → Option (List Call)) (work : Work) (old new : H) (o : Outcome) : Type 0 where
  pub fails_same : fails new ≡ fails old
  pub follows : (told : List Fail) → fails old ≡ Some told → EndsBy (fault_for work.job work.attempt told) o
  pub sound : honest → o ≢ outcome.Damaged
  pub called : (calls new ≡ with_call (calls old) (call_of work.job work.attempt work.task.items)) ⊎ ((o ≡ outcome.Memory) × (calls new ≡ calls old))

-- the turns of a board agree with what the hand did: the ends of steps follow the faults that it tells, its calls are those of the ends, and where
-- it is honest no product is Damaged
pub record AgreesWithHand {H : Type 0} (honest : Type 0) (fails : H → Option (List Fail)) (calls : H → Option (List Call)) (base hand : H) (board : BoardModel) : Type 0 where
  pub fails_same : fails hand ≡ fails base
  pub follows : (told : List Fail) → fails base ≡ Some told → All (IsEndBy told) (map event_of (turns board))
  pub sound : honest → All IsUndamaged (map event_of (turns board))
  pub new_calls : List Call
  pub told_calls : calls hand ≡ option_map (λ before. before ++ new_calls) (calls base)
  pub are_calls : AreCallsOf cube honest board.workers (turns board) new_calls
