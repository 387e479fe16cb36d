-- Jobs that are paused and discarded in flight.
use Rattle.std.specs.Prelude.{List, [], ◌∷◌}
use Rattle.job_machine.specs.declared.state.JobKind.TheVariants.{Build}
use Rattle.plain_answer.specs.declared.ask.Ask.{Ask}
use Rattle.run_history.specs.Commands.{Turn}
use Rattle.run_history.specs.Commands.Command.{Load, Steer, Submit}
use Rattle.run_history.specs.Commands.Turn.{Takes, Claims, StepEnds}
use Rattle.run_history.specs.declared.command.Control.TheVariants.{Pause, Resume, Discard}
use Rattle.run_history.specs.declared.event.Outcome.TheVariants.{Done}
use Rattle.run_transcript.specs.Examples.{facts, january}

-- job 1 is paused in flight, discarded at rest, and paused again, which is refused; job 2 is discarded in flight
abbrev pub steered : List (Turn Ask)
steered =
    Takes 1 (Load 0 facts) ∷ Takes 2 (Submit Build january) ∷ Claims 1 1 ∷ Takes 3 (Steer Pause 1) ∷ StepEnds 1 1 Done ∷ Takes 4 (Steer Discard 1) ∷ Takes 5 (Steer Pause 1)
    ∷ Takes 6 (Submit Build january) ∷ Claims 2 1 ∷ Takes 7 (Steer Resume 2) ∷ Takes 8 (Steer Discard 2) ∷ []
