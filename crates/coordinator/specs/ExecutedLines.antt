-- Lines that were taken.
use Rattle.std.specs.Prelude.{◌≡◌, ◌⊎◌, ◌∷◌, ◌++◌, [], ℕ, List, Some, false, take}
use Rattle.job_board.specs.BoardModel.{IsAdded, BoardModel, now}
use Rattle.run_history.specs.Commands.Turn.{QueryEnds, Takes}
use Rattle.run_history.specs.declared.event.QueryOut.{QueryOut}
use Rattle.run_inputs.specs.declared.inputs.LoadedTable.{LoadedTable}
use Rattle.run_transcript.specs.Entries.{entry_of}
use Rattle.run_transcript.specs.Entries.Entry.{Told}
use Rattle.run_transcript.specs.Served.{command_of}
use Rattle.script_text.specs.declared.block.Block.{Block}
use Rattle.script_text.specs.declared.verb.Line.{Line}
use Rattle.script_text.specs.declared.verb.Verb.TheVariants as verb
use Rattle.coordinator.specs.Answers.{IsAnswerOver}
use Rattle.coordinator.specs.Coordinator.{IsGrown, asked_turns, is_query}
use Rattle.coordinator.specs.Served.{rows_at, served}

-- the command of a line that asks for no query was taken, and this is its block
pub record IsCommand (tables : List LoadedTable) (old : BoardModel) (line : Line) (said : Block) (new : BoardModel) : Type 0 where
  pub no_query : is_query line.verb ≡ false
  pub added : IsAdded old (Takes line.number (command_of served (rows_at tables line.number) line.verb)) new
  pub block : entry_of served (now old) line.number (Some line.verb) (command_of served (rows_at tables line.number) line.verb) ≡ Told line.number said

-- the query of a line has its end, and this is its block
pub record IsQuery (honest : Type 0) (old : BoardModel) (line : Line) (said : Block) (new : BoardModel) : Type 0 where
  pub session : ℕ
  pub text : List ℕ
  pub asks : line.verb ≡ verb.Query session text
  pub out : QueryOut
  pub grown : IsGrown old (asked_turns line.number session ++ QueryEnds line.number out ∷ []) new
  pub answer : IsAnswerOver honest (now old) out said

abbrev pub HasExecuted : Type 0 → List LoadedTable → BoardModel → Line → Block → BoardModel → Type 0
HasExecuted honest tables old line said new = IsCommand tables old line said new ⊎ IsQuery honest old line said new

-- some turns of a query before its end
pub record IsPartOfQuery (old : BoardModel) (line : Line) (new : BoardModel) : Type 0 where
  pub session : ℕ
  pub text : List ℕ
  pub asks : line.verb ≡ verb.Query session text
  pub count : ℕ
  pub grown : IsGrown old (take count (asked_turns line.number session)) new

-- the line was not taken, or its query has no end
abbrev pub HasExecutedPart : BoardModel → Line → BoardModel → Type 0
HasExecutedPart old line new = IsGrown old [] new ⊎ IsPartOfQuery old line new
