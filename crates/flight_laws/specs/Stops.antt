-- The attempts that commands find in flight.
use Rattle.std.specs.Prelude.{◌++◌, ℕ, List, [], ◌∷◌, Option, Some, None, Result, Ok, Err}
use Rattle.outside.specs.Stoppers.{request_of}
use Rattle.outside.specs.declared.stopper.Request.{Request}
use Rattle.run_history.specs.Commands.{Command, Turn}
use Rattle.run_history.specs.Commands.Command.{Load, Submit, Drop, Steer, Ask, Note}
use Rattle.run_history.specs.Commands.Turn.{Takes, Claims, StepEnds, QueryTakes, QueryEnds}
use Rattle.run_history.specs.Cubes.{CubeSemantics}
use Rattle.run_history.specs.Steps.{step}
use Rattle.run_history.specs.World.{World, job_of}
use Rattle.run_history.specs.declared.refused.Refused.{Refused}
use Rattle.run_state.specs.Answers.{steer_answer}
use Rattle.run_state.specs.declared.parts.Controlled.{Controlled}

-- the request for this attempt of a job, if there is one
abbrev pub request_for : ℕ → Option ℕ → List Request
request_for job None = []
request_for job (Some attempt) = request_of job attempt ∷ []

-- .. for the attempt that a command on a job found in flight, where it was accepted
abbrev pub requests_by : ℕ → Result Controlled Refused → List Request
requests_by job (Ok controlled) = request_for job controlled.stop
requests_by job (Err refused) = []

module _ {Query : Type 0} where
  abbrev pub stops_by : World Query → Command Query → List Request
  stops_by w (Steer control job) = requests_by job (steer_answer control job (job_of w job))
  stops_by w (Load place rows) = []
  stops_by w (Submit kind range) = []
  stops_by w (Drop range) = []
  stops_by w (Ask session query) = []
  stops_by w (Note noted) = []

  -- the attempt that a turn found in flight, where the turn is an accepted pause or discard
  abbrev pub stops_at : World Query → Turn Query → List Request
  stops_at w (Takes line command) = stops_by w command
  stops_at w (Claims job attempt) = []
  stops_at w (StepEnds job attempt outcome) = []
  stops_at w (QueryTakes line) = []
  stops_at w (QueryEnds line out) = []

  -- those of some turns, one after another
  abbrev pub stops_along : {Answer : Type 0} → CubeSemantics Query Answer → World Query → List (Turn Query) → List Request
  stops_along cube w [] = []
  stops_along cube w (turn ∷ turns) = stops_at w turn ++ stops_along cube (step cube w turn) turns
