-- Rows aggregated by a set of dimensions, of which dimension d is column d.
use Rattle.std.specs.Prelude.{ℕ, List, filter, map}
use Rattle.agg_group.specs.declared.mask.Mask.{Mask}
use Rattle.agg_group.specs.Mask.{has}
use Rattle.agg_group.specs.Sets.{dimensions}
use Rattle.aggregation.specs.Groups.{grouped}
use Rattle.cube_val.specs.declared.val.Val.{Val}
use Rattle.cube_val.specs.Order.{row_cmp}
use Rattle.plain_answer.specs.declared.answer.PlainRow.{PlainRow}
use Rattle.plain_answer.specs.declared.ask.Agg.{Agg}
use Rattle.plain_answer.specs.Answers.{aggregates_of, key_of}
use Rattle.plain_answer.specs.Laws.{group_from}

-- the columns of a set of dimensions, rising
unfoldable pub columns_of : Mask → List ℕ
columns_of dims = filter (has dims) (dimensions 64)

-- for each distinct projection of the rows on the dimensions, in order, what the aggregates make of its rows
abbrev pub aggregate_by : Mask → List Agg → List (List Val) → List PlainRow
aggregate_by dims aggs rows = map group_from (grouped row_cmp (key_of (columns_of dims)) (λ row. row) (aggregates_of aggs) rows)
