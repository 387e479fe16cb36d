-- Histories of events over what a run is given.
use Rattle.std.specs.Prelude.{◌≡◌, ℕ, Bool, ◌&&◌, ◌==◌, true, List, [], ◌∷◌, ◌++◌, length, map}
use Rattle.std.specs.List.{flat_map}
use Rattle.run_history.specs.Commands.{Turn}
use Rattle.run_history.specs.Commands.Turn.{Takes, Claims, StepEnds, QueryTakes, QueryEnds}
use Rattle.run_history.specs.Histories as histories
use Rattle.run_history.specs.Histories.{is_settled}
use Rattle.run_history.specs.Steps.{world}
use Rattle.run_history.specs.World.{World}
use Rattle.run_history.specs.declared.event.Event.{Event}
use Rattle.run_history.specs.declared.event.Event.TheVariants as event
use Rattle.script_text.specs.declared.verb.Line.{Line}
use Rattle.run_transcript.specs.Served.{Inputs, Served, command_at}

-- the line of the command that an event is, if it is one
abbrev pub line_of : Event → List ℕ
line_of (event.Command line) = line ∷ []
line_of (event.Claim job attempt) = []
line_of (event.StepEnd job attempt outcome) = []
line_of (event.QueryTake line) = []
line_of (event.QueryEnd line out) = []

-- the lines of the commands of a history, in order
abbrev pub lines_taken : List Event → List ℕ
lines_taken history = flat_map line_of history

-- the lines of the commands of a script
abbrev pub lines_in : List Line → List ℕ
lines_in script = map (λ line. line.number) script

module _ {Query : Type 0} (served : Served Query) (inputs : Inputs) where
  -- an event with the command that the script gives it
  abbrev pub turn_of : Event → Turn Query
  turn_of (event.Command line) = Takes line (command_at served inputs line)
  turn_of (event.Claim job attempt) = Claims job attempt
  turn_of (event.StepEnd job attempt outcome) = StepEnds job attempt outcome
  turn_of (event.QueryTake line) = QueryTakes line
  turn_of (event.QueryEnd line out) = QueryEnds line out

  abbrev pub turns_of : List Event → List (Turn Query)
  turns_of history = map turn_of history

  abbrev pub world_of : List Event → World Query
  world_of history = world served.cube inputs.workers inputs.ready (turns_of history)

  -- the commands are the script's first ones, in order, and every turn may come
  pub record IsLegal (history : List Event) : Type 0 where
    pub later : List ℕ
    pub in_order : lines_in inputs.script ≡ lines_taken history ++ later
    pub allowed : histories.IsLegal served.cube inputs.workers inputs.ready (turns_of history)

  -- every answer's version is no older than what its query and its session saw, and no newer than the last
  abbrev pub IsFresh : List Event → Type 0
  IsFresh history = histories.HasFreshAnswers served.cube inputs.workers inputs.ready (turns_of history)

  -- every command was taken, and nothing waits and nothing is in flight
  abbrev pub is_whole : List Event → Bool
  is_whole history = (length (lines_taken history) == length inputs.script) && is_settled (world_of history)

  pub record IsWhole (history : List Event) : Type 0 where
    pub legal : IsLegal history
    pub whole : is_whole history ≡ true
