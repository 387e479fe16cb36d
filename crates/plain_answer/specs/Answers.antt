-- The answer of an ask over rows: a filter, groups and folds over the whole list.
use Rattle.std.specs.Prelude.{◌==◌, ℕ, Bool, List, [], ◌∷◌, map, filter, take, Option, Some, None, slice_get, unwrap_or, if◌then◌else◌}
use Rattle.std.specs.declared.cmp.Ordering.{Ordering}
use Rattle.std.specs.declared.cmp.Ordering.TheVariants.{Equal}
use Rattle.std.specs.Ordering.{eq_by_cmp, flip_args, is_lt, on, then_cmp}
use Rattle.cube_val.specs.declared.val.Val.{Val}
use Rattle.cube_val.specs.declared.val.Val.TheVariants as val
use Rattle.cube_val.specs.Order.{row_cmp}
use Rattle.aggregation.specs.Groups.{distinct}
use Rattle.plain_answer.specs.declared.answer.AnswerTable.{AnswerTable}
use Rattle.plain_answer.specs.declared.answer.OutVal.{OutVal}
use Rattle.plain_answer.specs.declared.answer.OutVal.TheVariants.{Null}
use Rattle.plain_answer.specs.declared.answer.PlainRow.{PlainRow}
use Rattle.plain_answer.specs.declared.ask.Agg.{Agg}
use Rattle.plain_answer.specs.declared.ask.Ask.{Ask}
use Rattle.plain_answer.specs.declared.ask.OrderKey.{OrderKey}
use Rattle.plain_answer.specs.declared.ask.Out.{Out}
use Rattle.plain_answer.specs.declared.cond.Cond.{Cond}
use Rattle.plain_answer.specs.declared.cond.Term.{Term}
use Rattle.plain_answer.specs.declared.cond.Term.TheVariants.{Col, Agg as Agg'}
use Rattle.plain_answer.specs.Aggregates.{aggregate_of, cell}
use Rattle.plain_answer.specs.Conditions.{truth_of}
use Rattle.plain_answer.specs.OutVals.{out_cmp, shown}
use Rattle.plain_answer.specs.Sorting.{sorted}
use Rattle.plain_answer.specs.Truths.{is_true}

-- ---- rows

-- what a term stands for in a row; an aggregate is of no row
abbrev pub row_value : List Val → Term → OutVal
row_value row (Col column ty) = shown ty (cell row column)
row_value row (Agg' number) = Null

-- whether the filter is true of a row
abbrev pub passes : Cond → List Val → Bool
passes filter row = is_true (truth_of (row_value row) filter)

-- ---- groups

-- a row's values of the group columns
abbrev pub key_of : List ℕ → List Val → List Val
key_of columns row = map (cell row) columns

-- the keys of rows, in order, each once; without group columns there is the empty key alone, also over no rows
abbrev pub group_keys : List ℕ → List (List Val) → List (List Val)
group_keys [] rows = [] ∷ []
group_keys (column ∷ columns) rows = distinct row_cmp (map (key_of (column ∷ columns)) rows)

-- the rows of a key
abbrev pub rows_at : List ℕ → List (List Val) → List Val → List (List Val)
rows_at columns rows key = filter (λ row. eq_by_cmp row_cmp key (key_of columns row)) rows

-- the aggregates of rows
abbrev pub aggregates_of : List Agg → List (List Val) → List OutVal
aggregates_of aggs rows = map (λ agg. aggregate_of agg rows) aggs

-- the group of a key, with its aggregates
abbrev pub group_at : List ℕ → List Agg → List (List Val) → List Val → PlainRow
group_at columns aggs rows key = record { key = key; values = aggregates_of aggs (rows_at columns rows key) }

-- the groups of rows, with their aggregates
abbrev pub groups_of : List ℕ → List Agg → List (List Val) → List PlainRow
groups_of columns aggs rows = map (λ key. record { key = key; values = aggregates_of aggs (rows_at columns rows key) }) (group_keys columns rows)

-- the value of a group column in a key
abbrev pub key_cell : List ℕ → List Val → ℕ → Val
key_cell [] key column = val.Null
key_cell (c ∷ columns) [] column = val.Null
key_cell (c ∷ columns) (v ∷ key) column = if c == column then v else key_cell columns key column

-- what a term stands for in a group: a group column, or one of the group's aggregates
abbrev pub group_value : List ℕ → PlainRow → Term → OutVal
group_value columns group (Col column ty) = shown ty (key_cell columns group.key column)
group_value columns group (Agg' number) = unwrap_or (slice_get group.values number) Null

-- ---- order

-- the order of two items by keys in turn; a falling key has the value order reversed, so that nulls come last
abbrev pub by_keys : {X : Type 0} → (X → Term → OutVal) → List OrderKey → X → X → Ordering
by_keys value [] = λ a b. Equal
by_keys value (k ∷ ks) = then_cmp (if k.falling then flip_args (on (λ x. value x k.term) out_cmp) else on (λ x. value x k.term) out_cmp) (by_keys value ks)

-- the order of groups: by the keys of the order, ties by the group key
abbrev pub group_cmp : List ℕ → List OrderKey → PlainRow → PlainRow → Ordering
group_cmp columns order = then_cmp (by_keys (group_value columns) order) (on (λ group. group.key) row_cmp)

-- ---- the answer

-- the first items, as many as the limit says
abbrev pub limited : {X : Type 0} → Option ℕ → List X → List X
limited None xs = xs
limited (Some most) xs = take most xs

-- whether the condition on groups is true of a group
abbrev pub has : List ℕ → Cond → PlainRow → Bool
has columns having group = is_true (truth_of (group_value columns group) having)

-- groups in order
abbrev pub in_order : List ℕ → List OrderKey → List PlainRow → List PlainRow
in_order columns order groups = sorted (λ a b. is_lt (group_cmp columns order a b)) groups

-- the groups that are shown: those whose HAVING is true, in order, and then cut at the limit
abbrev pub shown_groups : Ask → List PlainRow → List PlainRow
shown_groups ask groups = limited ask.limit (in_order ask.group ask.order (filter (has ask.group ask.having) groups))

-- the select items of a group
abbrev pub row_of_group : List ℕ → List Out → PlainRow → List OutVal
row_of_group columns outs group = map (λ out. group_value columns group out.term) outs

-- the table that groups make: a row for each group that is shown, with the select items
abbrev pub table_of : Ask → List PlainRow → AnswerTable
table_of ask groups = record {
  names = map (λ out. out.name) ask.outs;
  rows = map (row_of_group ask.group ask.outs) (shown_groups ask groups);
}

-- the answer of an ask over rows
abbrev pub plain_of : Ask → List (List Val) → AnswerTable
plain_of ask rows = table_of ask (groups_of ask.group ask.aggs (filter (passes ask.filter) rows))
