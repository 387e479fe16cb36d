-- How the query of the fixed cube ends.
use Rattle.std.specs.Prelude.{◌≡◌, ⊤, List}
use Rattle.fixed_cube.specs.Answers.{answer_of, by_first}
use Rattle.fixed_cube.specs.Cells.{Cell}
use Rattle.fixed_cube.specs.Cube.{fixed}
use Rattle.fixed_state.specs.Ready.{AreCellsOf}
use Rattle.plain_answer.specs.declared.answer.AnswerTable.{AnswerTable}
use Rattle.run_history.specs.Sets.{ReadySet, rows_of}
use Rattle.fixed_query.specs.declared.query.FixedQuery.{FixedQuery}
use Rattle.fixed_query.specs.declared.query.QueryEnd.{QueryEnd}
use Rattle.fixed_query.specs.declared.query.QueryEnd.TheVariants.{Answered, Memory}

-- the answer over these cells; where they are those of a ready set, the plain answer over its rows
pub record IsAnswerOver (cells : List (List Cell)) (table : AnswerTable) : Type 0 where
  pub exact : table ≡ answer_of cells
  pub plain : (set : ReadySet) → AreCellsOf set cells → table ≡ fixed.answer by_first (rows_of fixed set)

-- the query may end so: by the answer over exactly the set that it was given
abbrev pub EndsQuery : FixedQuery → QueryEnd → Type 0
EndsQuery query (Answered version table) = (version ≡ query.version) × IsAnswerOver query.cells table
EndsQuery query Memory = ⊤
