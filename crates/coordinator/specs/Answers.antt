-- Queries from their commands to their answers.
use Rattle.std.specs.Prelude.{◌≡◌, ◌<◌, ◌⊎◌, ℕ, [], Some}
use Rattle.job_board.specs.Ledger.{AreCellsOf, cube, only_query}
use Rattle.job_board.specs.BoardModel.{next_query}
use Rattle.job_board.specs.declared.answers.QueryWork.{QueryWork}
use Rattle.plain_answer.specs.declared.ask.Ask.{Ask}
use Rattle.run_history.specs.Commands.Turn.{QueryEnds}
use Rattle.run_history.specs.Histories.{IsFresh, IsInFlight}
use Rattle.run_history.specs.Sets.{ReadySet, rows_of}
use Rattle.run_history.specs.World.{Waiting, World, busy, number}
use Rattle.run_history.specs.declared.event.QueryOut.{QueryOut}
use Rattle.run_history.specs.declared.event.QueryOut.TheVariants.{Answered, Memory as NoAnswer}
use Rattle.script_text.specs.declared.block.Block.{Block}
use Rattle.script_text.specs.declared.block.Block.TheVariants as block

-- the query of this line waits next, and a worker is free
pub record IsAccepted (w : World Ask) (line : ℕ) : Type 0 where
  pub worker : busy w < w.workers
  pub query : Waiting Ask
  pub line_is : query.line ≡ line
  pub next : next_query w ≡ Some query

-- a query of this line was taken over the last ready set
pub record IsTakenQuery (honest : Type 0) (w : World Ask) (line : ℕ) (work : QueryWork) : Type 0 where
  pub line_is : work.line ≡ line
  pub version : work.version ≡ number w
  pub cells : honest ⊎ (w.ready ≡ []) → AreCellsOf w.ready work.cells

-- the query in flight of this line may end with an answer of this version
pub record CanEnd (w : World Ask) (line version : ℕ) : Type 0 where
  pub in_flight : IsInFlight w line
  pub fresh : IsFresh w (QueryEnds line (Answered version))

-- the end of a query that was taken, and its block: the answer over every set of which the cells are, or none
abbrev pub IsAnswerOf : QueryWork → QueryOut → Block → Type 0
IsAnswerOf work (Answered version) said =
    (version ≡ work.version) × ((set : ReadySet) → AreCellsOf set work.cells → said ≡ block.Answer (cube.answer only_query (rows_of cube set)))
IsAnswerOf work NoAnswer said = said ≡ block.OutOfMemory

-- a query ended so in a world: with the answer over the last ready set, where hands are honest or the set has no segment; or without an
-- answer
abbrev pub IsAnswerOver : Type 0 → World Ask → QueryOut → Block → Type 0
IsAnswerOver honest w (Answered version) said =
    (version ≡ number w) × (honest ⊎ (w.ready ≡ []) → said ≡ block.Answer (cube.answer only_query (rows_of cube w.ready)))
IsAnswerOver honest w NoAnswer said = said ≡ block.OutOfMemory
