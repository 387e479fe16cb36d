-- The requests of a stopper over a whole run.
use Rattle.std.specs.Prelude.{◌≡◌, ◌≢◌, ◌++◌, List, [], All, AllPairs, Contains, Option, length, option_map}
use Rattle.flight_laws.specs.Stops.{stops_along}
use Rattle.outside.specs.declared.stopper.Request.{Request}
use Rattle.run_history.specs.World.{start}
use Rattle.run_history.specs.declared.event.Event.{Event}
use Rattle.run_transcript.specs.Runs.{turns_of}
use Rattle.run_transcript.specs.Served.{Inputs, Served}

-- the attempts that the commands of a history found in flight
abbrev pub stops_of : {Query : Type 0} → Served Query → Inputs → List Event → List Request
stops_of served inputs history = stops_along served.cube (start inputs.workers (length served.cube.tables) []) (turns_of served inputs history)

-- where a stopper tells its requests, the new ones are among these, and no two of them are equal
abbrev pub AsksAmong : List Request → Option (List Request) → Option (List Request) → Type 0
AsksAmong stops before now =
    (asked : List Request) × (now ≡ option_map (λ told. told ++ asked) before) × All (Contains stops) asked × AllPairs (λ request other. request ≢ other) asked
