-- What the coordinator keeps between two turns.
use Rattle.std.specs.Prelude.{◌≡◌, ◌==◌, ◌&&◌, ◌<◌, ◌≤◌, ⊤, ℕ, Bool, true, false, List, [], ◌∷◌, ◌++◌, Option, Some, All, codes, drop, find, is_some, length, map, slice_get, take}
use Rattle.std.specs.Arc.{arc_value}
use Rattle.std.specs.Io.KnownBytes.{append_known}
use Rattle.std.specs.List.{AllByRecursion}
use Rattle.std.specs.Str.{bytes_eq}
use Rattle.job_board.specs.Ledger.{cube, only_query}
use Rattle.job_board.specs.BoardModel.{BoardModel, now, turns}
use Rattle.outside.specs.Rises.{Risen}
use Rattle.outside.specs.Written.{AppendsPart}
use Rattle.outside.specs.declared.stopper.Request.{Request}
use Rattle.plain_answer.specs.declared.ask.Ask.{Ask}
use Rattle.run_history.specs.Commands.{Command as command, Turn, event_of}
use Rattle.run_history.specs.Commands.Turn.{Takes, Claims, StepEnds, QueryTakes, QueryEnds}
use Rattle.run_history.specs.Histories.{MayNote, is_settled}
use Rattle.run_history.specs.World.{Submitted, World, job_at, number, start}
use Rattle.run_history.specs.declared.command.Noted.{Noted}
use Rattle.run_history.specs.declared.command.Noted.TheVariants as noted
use Rattle.run_inputs.specs.Inputs.{HasFittingRows}
use Rattle.run_inputs.specs.declared.inputs.LoadedTable.{LoadedTable}
use Rattle.run_transcript.specs.Entries.{Entry, entries_along, told_text}
use Rattle.run_transcript.specs.Opens.{AreTold}
use Rattle.run_transcript.specs.Runs.{lines_in, lines_taken, turns_of}
use Rattle.run_transcript.specs.Served.{Inputs}
use Rattle.script_text.specs.declared.verb.Line.{Line}
use Rattle.script_text.specs.declared.verb.Verb.{Verb}
use Rattle.script_text.specs.declared.verb.Verb.TheVariants as verb
use Rattle.coordinator.specs.Runs.{AreTrusted}
use Rattle.step_outcomes.specs.Ends.{fault_ends, run_ends}
use Rattle.coordinator.specs.Served.{inputs_of, served}
use Rattle.flight_laws.specs.Stops.{stops_along}
use Rattle.coordinator.specs.declared.loads.SharedLoad.{SharedLoad}

-- ---- what the coordinator was given

-- a load as the files give it
abbrev pub load_of : SharedLoad → LoadedTable
load_of load = record { line = load.line; rows = arc_value load.rows }

abbrev pub inputs_in : List Line → List LoadedTable → Inputs
inputs_in script tables = inputs_of 1 (record { script = script; tables = tables })

-- the numbers of lines rise, from above this one on
abbrev pub RisesFrom : ℕ → List Line → Type 0
RisesFrom last [] = ⊤
RisesFrom last (line ∷ lines) = (last < line.number) × RisesFrom line.number lines

-- a line is one of the scripts that are run, and a load has its rows
abbrev pub IsServed : List LoadedTable → ℕ → Verb → Type 0
IsServed tables number (verb.Load name path) = (bytes_eq name (codes "F") ≡ true) × (is_some (find (λ table. table.line == number) tables) ≡ true)
IsServed tables number (verb.Refresh range) = ⊥
IsServed tables number (verb.Merge range) = ⊥
IsServed tables number (verb.Drop range) = ⊥
IsServed tables number verb.Segments = ⊥
IsServed tables number said = ⊤

abbrev pub IsServedLine : List LoadedTable → Line → Type 0
IsServedLine tables line = IsServed tables line.number line.verb

-- the lines of a script rise, each is served, and the rows of loads may stand in tasks
pub record AreGiven (script : List Line) (tables : List LoadedTable) : Type 0 where
  pub rise : RisesFrom 0 script
  pub lines : All (IsServedLine tables) script
  pub fit : All HasFittingRows tables

-- what a line waits for
abbrev pub awaited : Verb → Noted
awaited (verb.AwaitJob job) = noted.AwaitJob job
awaited verb.AwaitJobs = noted.AwaitJobs
awaited verb.AwaitQueries = noted.AwaitQueries
awaited said = noted.Other

abbrev pub is_query : Verb → Bool
is_query (verb.Query session text) = true
is_query said = false

-- ---- turns

-- these turns more
pub record IsGrown (old : BoardModel) (later : List (Turn Ask)) (new : BoardModel) : Type 0 where
  pub turns : turns new ≡ turns old ++ later
  pub workers : new.workers ≡ old.workers

-- the turns of a query before its end, and of one that has its end
abbrev pub asked_turns : ℕ → ℕ → List (Turn Ask)
asked_turns line session = Takes line (command.Ask session only_query) ∷ QueryTakes line ∷ []

-- a claim or the end of a step
abbrev pub IsOfStep : Turn Ask → Type 0
IsOfStep (Claims job attempt) = ⊤
IsOfStep (StepEnds job attempt outcome) = ⊤
IsOfStep (Takes line command) = ⊥
IsOfStep (QueryTakes line) = ⊥
IsOfStep (QueryEnds line out) = ⊥

-- claims and ends of steps more
pub record IsWorked (old new : BoardModel) : Type 0 where
  pub later : List (Turn Ask)
  pub steps : AllByRecursion IsOfStep later
  pub grown : IsGrown old later new

-- ---- what the coordinator keeps

-- no job is in flight
abbrev pub AreNotInFlight : List Submitted → Type 0
AreNotInFlight jobs = (n : ℕ) (s : Submitted) → job_at jobs n ≡ Some s → s.job.in_flight ≡ false

-- nothing is in flight and no query waits, there is a worker, and no answer was over a set that is still to come
pub record IsIdle (w : World Ask) : Type 0 where
  pub workers : 0 < w.workers
  pub answers : (session : ℕ) → w.answered session ≤ number w
  pub steps : w.steps ≡ []
  pub waiting : w.waiting ≡ []
  pub asked : w.asked ≡ []
  pub not_in_flight : AreNotInFlight w.jobs

-- the entries of the turns of a board
abbrev pub entries_in : List Line → BoardModel → List Entry
entries_in script board = entries_along served script (start board.workers (length cube.tables) []) [] (turns board)

-- the attempts that its commands found in flight
abbrev pub stops_in : BoardModel → List Request
stops_in board = stops_along cube (start board.workers (length cube.tables) []) (turns board)

-- the run starts with no segment, the board's turns are those of its events over the inputs, their commands are the first ones of the script, and none of them found an
-- attempt in flight
pub record IsFront (inputs : Inputs) (board : BoardModel) : Type 0 where
  pub workers : board.workers ≡ inputs.workers
  pub ready : inputs.ready ≡ []
  pub named : turns_of served inputs (map event_of (turns board)) ≡ turns board
  pub later : List ℕ
  pub in_order : lines_in inputs.script ≡ lines_taken (map event_of (turns board)) ++ later
  pub no_stops : stops_in board ≡ []

-- so many commands of the script were taken, and all their blocks are told
pub record IsSound (inputs : Inputs) (board : BoardModel) (taken : ℕ) : Type 0 where
  pub within : taken ≤ length inputs.script
  pub workers : board.workers ≡ inputs.workers
  pub ready : inputs.ready ≡ []
  pub named : turns_of served inputs (map event_of (turns board)) ≡ turns board
  pub in_order : lines_taken (map event_of (turns board)) ≡ lines_in (take taken inputs.script)
  pub later : RisesFrom (now board).line (drop taken inputs.script)
  pub idle : IsIdle (now board)
  pub all_told : AreTold (entries_in inputs.script board)
  pub no_stops : stops_in board ≡ []

-- where a run is trusted, all that is told was written after these bytes; or a part of it from the front
abbrev pub HasWritten : Type 0 → List Line → BoardModel → Option (List ℕ) → Option (List ℕ) → Type 0
HasWritten honest script board before written =
    AreTrusted honest board.workers (turns board) → written ≡ append_known before (told_text (entries_in script board))

abbrev pub HasWrittenPart : Type 0 → List Line → BoardModel → Option (List ℕ) → Option (List ℕ) → Type 0
HasWrittenPart honest script board before written =
    AreTrusted honest board.workers (turns board) → AppendsPart before written (told_text (entries_in script board))

-- the hands' counts cover the ends of the turns
pub record IsCounted {H : Type 0} (runs faults : H → ℕ) (base hands : List H) (board : BoardModel) : Type 0 where
  pub ran : Risen runs base hands (run_ends (map event_of (turns board)))
  pub failed : Risen faults base hands (fault_ends (map event_of (turns board)))

-- nothing may come next: no job waits for a claim, and what the next command waits for isn't there, if there is a next one
pub record HasNoNextTurn (script : List Line) (taken : ℕ) (w : World Ask) : Type 0 where
  pub queue : w.queue ≡ []
  pub waits : (line : Line) → slice_get script taken ≡ Some line → MayNote w (awaited line.verb) → ⊥

-- nothing is left to do
abbrev pub is_done : List Line → ℕ → World Ask → Bool
is_done script taken w = (taken == length script) && is_settled w
