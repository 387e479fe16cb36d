-- The one query, and its answer from cells.
use Rattle.std.specs.Prelude.{ℕ, ◌==◌, if◌then◌else◌, ℤ, pos, List, [], ◌∷◌, map, Option, None, Some, codes}
use Rattle.std.specs.List.{flat_map}
use Rattle.cube_val.specs.declared.val.ColType.TheVariants as ty
use Rattle.cube_val.specs.declared.val.Val.{Val}
use Rattle.cube_val.specs.Order.{row_cmp}
use Rattle.measure_laws.specs.Measures.{Summed, merged_sum, summed}
use Rattle.aggregation.specs.Groups.{gather}
use Rattle.plain_answer.specs.declared.answer.AnswerTable.{AnswerTable}
use Rattle.plain_answer.specs.declared.answer.OutVal.{OutVal}
use Rattle.plain_answer.specs.declared.answer.OutVal.TheVariants as out
use Rattle.plain_answer.specs.declared.answer.PlainRow.{PlainRow}
use Rattle.plain_answer.specs.declared.ask.Agg.{Agg}
use Rattle.plain_answer.specs.declared.ask.AggKind.TheVariants as kind
use Rattle.plain_answer.specs.declared.ask.Ask.{Ask}
use Rattle.plain_answer.specs.declared.cond.Cond.TheVariants as cond
use Rattle.plain_answer.specs.declared.cond.Term.TheVariants.{Col, Agg as Agg'}
use Rattle.plain_answer.specs.Aggregates.{cell}
use Rattle.plain_answer.specs.Answers.{table_of}
use Rattle.fixed_cube.specs.Cells.{Cell}

-- select d1, count(*), sum(m) from f group by d1, over joined rows
abbrev pub by_first : Ask
by_first = record {
  filter = cond.True;
  group = 0 ∷ [];
  aggs = record { kind = kind.Count; column = None; ty = ty.Int } ∷ record { kind = kind.Sum; column = Some 2; ty = ty.Int } ∷ [];
  outs = record { name = codes "D1"; term = Col 0 ty.Text } ∷ record { name = codes "COUNT(*)"; term = Agg' 0 } ∷ record { name = codes "SUM(M)"; term = Agg' 1 } ∷ [];
  having = cond.True;
  order = [];
  limit = None;
}

-- D1 of a key, as a key
abbrev pub first_of : List Val → List Val
first_of key = cell key 0 ∷ []

-- a sum, which of no row is null
abbrev pub sum_shown : ℕ → ℤ → OutVal
sum_shown count total = if count == 0 then out.Null else out.Whole total

-- the group of a cell: its key, its count and its sum
abbrev pub group_of_cell : Cell → PlainRow
group_of_cell c = record { key = c.0; values = out.Whole (pos c.1.items) ∷ sum_shown c.1.items c.1.total ∷ [] }

-- the cells of lists, gathered by D1
abbrev pub gathered : List (List Cell) → List Cell
gathered lists = gather row_cmp first_of (summed []) merged_sum (flat_map (λ cells. cells) lists)

-- the answer from the cells of segments
abbrev pub answer_of : List (List Cell) → AnswerTable
answer_of lists = table_of by_first (map group_of_cell (gathered lists))
