-- What lists of hands did for the turns of a board.
use Rattle.std.specs.Prelude.{◌≡◌, ℕ, List, All, Option, length, map}
use Rattle.fixed_cube.specs.Cube.{fixed}
use Rattle.job_board.specs.BoardModel.{BoardModel, turns}
use Rattle.outside.specs.Hands.{Call, Fail}
use Rattle.outside.specs.Rises.{AllTellThat, Gained, Risen, TellSame}
use Rattle.run_history.specs.Commands.{event_of}
use Rattle.step_outcomes.specs.Calls.{AreCallsOf}
use Rattle.step_outcomes.specs.Ends.{IsUndamaged, fault_ends, run_ends}
use Rattle.step_outcomes.specs.Faults.{IsEndBy}

-- the hands' counts cover the ends of the turns
pub record IsCounted {H : Type 0} (runs faults : H → ℕ) (base hands : List H) (board : BoardModel) : Type 0 where
  pub ran : Risen runs base hands (run_ends (map event_of (turns board)))
  pub failed : Risen faults base hands (fault_ends (map event_of (turns board)))

-- the ends follow the faults that all hands tell, and no product is Damaged where hands are honest
pub record AgreesWithHands {H : Type 0} (honest : Type 0) (fails : H → Option (List Fail)) (base hands : List H) (board : BoardModel) : Type 0 where
  pub fails_same : TellSame fails base hands
  pub follows : (told : List Fail) → AllTellThat fails told base → All (IsEndBy told) (map event_of (turns board))
  pub sound : honest → All IsUndamaged (map event_of (turns board))

-- where all hands tell their calls, the new ones are those of the ends; this holds while each piece that came to an end has it recorded
pub record HaveCalled {H : Type 0} (honest : Type 0) (calls : H → Option (List Call)) (base hands : List H) (board : BoardModel) : Type 0 where
  pub new_calls : List Call
  pub gained : Gained calls base hands new_calls
  pub are_calls : AreCallsOf fixed honest board.workers (turns board) new_calls

-- there are as many hands, and what is known of them for the old turns is known for the new ones
pub record HandsKeepUp {H : Type 0} (honest : Type 0) (runs faults : H → ℕ) (fails : H → Option (List Fail)) (calls : H → Option (List Call)) (were : List H) (old : BoardModel) (are : List H) (new : BoardModel) : Type 0 where
  pub as_many : length are ≡ length were
  pub counted : (base : List H) → IsCounted runs faults base were old → IsCounted runs faults base are new
  pub agrees : (base : List H) → AgreesWithHands honest fails base were old → AgreesWithHands honest fails base are new
  pub called : (base : List H) → HaveCalled honest calls base were old → HaveCalled honest calls base are new
