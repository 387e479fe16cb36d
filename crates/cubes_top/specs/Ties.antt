-- What the hands and the stopper of a run did for its history.
use Rattle.std.specs.Prelude.{List, Option}
use Rattle.coordinator.specs.Served.{inputs_of, served}
use Rattle.coordinator.specs.Stops.{stops_of}
use Rattle.step_outcomes.specs.Calls.{AreCallsOf}
use Rattle.outside.specs.Hands.{Call}
use Rattle.outside.specs.Rises.{Gained}
use Rattle.outside.specs.declared.stopper.Request.{Request}
use Rattle.run_history.specs.declared.event.Event.{Event}
use Rattle.run_inputs.specs.declared.inputs.FixedInputs.{FixedInputs}
use Rattle.job_board.specs.Ledger.{cube}
use Rattle.run_transcript.specs.Runs.{turns_of}

-- where each hand tells its calls, the new ones are those of the ends of steps in a run over these inputs
pub record HaveCalled {H : Type 0} (calls : H → Option (List Call)) (honest : Type 0) (given : FixedInputs) (history : List Event) (old new : List H) : Type 0 where
  pub entries : List Call
  pub gained : Gained calls old new entries
  pub of_ends : AreCallsOf cube honest 1 (turns_of served (inputs_of 1 given) history) entries

-- the attempts that the commands of a run over these inputs found in flight
abbrev pub stops_over : FixedInputs → List Event → List Request
stops_over given history = stops_of served (inputs_of 1 given) history
