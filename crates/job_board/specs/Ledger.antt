-- The words of a run on a board. What stands above a board speaks of its cube, its query and the answers of its hands by these alone.
use Rattle.std.specs.Prelude.{ℕ, List}
use Rattle.fixed_cube.specs.Answers.{by_first}
use Rattle.fixed_cube.specs.Columns.{fact_columns, row_limit}
use Rattle.fixed_cube.specs.Cube.{fixed}
use Rattle.plain_answer.specs.declared.answer.AnswerTable.{AnswerTable}
use Rattle.plain_answer.specs.declared.ask.Ask.{Ask}
use Rattle.run_history.specs.Cubes.{CubeSemantics, Rows}
use Rattle.run_state.specs.declared.parts.JobEntry.{JobEntry}
use Rattle.step_fields.specs.Fits.{FitsRows}
pub use Rattle.fixed_cube.specs.Tasks.{IsTask, product_of}
pub use Rattle.fixed_state.specs.Ends.{Answer, IsJudged, IsOutcomeOf, IsProductOf, kept_of, outcome_of, stale_outcome}
pub use Rattle.fixed_state.specs.Ready.{AreCellsOf}
pub use Rattle.fixed_state.specs.States.{rows_seen}

-- what the board's cube means
abbrev pub cube : CubeSemantics Ask AnswerTable
cube = fixed

-- the one query that is asked of it
abbrev pub only_query : Ask
only_query = by_first

-- rows that may be loaded
abbrev pub FitsTable : Rows → Type 0
FitsTable rows = FitsRows fact_columns row_limit rows

-- a job with what is kept of it
abbrev pub BoardJob : Type 0
BoardJob = JobEntry Rows (List ℕ)
