-- What holds of all answers.
use Rattle.std.specs.Prelude.{◌≡◌, ℕ, List, ◌∷◌, map}
use Rattle.cube_val.specs.declared.val.Val.{Val}
use Rattle.cube_val.specs.Order.{row_cmp}
use Rattle.aggregation.specs.Groups.{grouped}
use Rattle.plain_answer.specs.declared.answer.OutVal.{OutVal}
use Rattle.plain_answer.specs.declared.answer.PlainRow.{PlainRow}
use Rattle.plain_answer.specs.declared.ask.Agg.{Agg}
use Rattle.plain_answer.specs.Answers.{aggregates_of, groups_of, key_of}

-- a key and what its rows come to, as a group
abbrev pub group_from : List Val × List OutVal → PlainRow
group_from cell = record { key = cell.0; values = cell.1 }

-- the groups by some columns are the rows grouped by their keys
abbrev pub GroupsAreGrouped : Type 0
GroupsAreGrouped =
    (column : ℕ) (columns : List ℕ) (aggs : List Agg) (rows : List (List Val))
    → groups_of (column ∷ columns) aggs rows ≡ map group_from (grouped row_cmp (key_of (column ∷ columns)) (λ row. row) (aggregates_of aggs) rows)
