-- Facts on groups.
use Rattle.std.proofs.Common.{◌≡◌, ℕ, ◌≤◌, ◌&&◌, false, List, [], ◌∷◌, length, map, refl, sym, arith}
use Rattle.std.proofs.lemmas.List.{map-id}
use Rattle.aggregation.specs.Groups.{distinct, values_at}
use Rattle.plain_answer.specs.declared.ask.Agg.{Agg}
use Rattle.plain_answer.specs.Laws.{GroupsAreGrouped, group_from}
use Rattle.std.specs.declared.cmp.Ordering.{Ordering}
use Rattle.std.specs.declared.cmp.Ordering.TheVariants.{Less, Equal, Greater}
use Rattle.std.specs.Ordering.{eq_by_cmp, is_eq, ordering_then}
use Rattle.cube_val.specs.declared.val.Val.{Val}
use Rattle.cube_val.specs.declared.val.Val.TheVariants.{Null}
use Rattle.cube_val.specs.Order.{row_cmp}
use Rattle.plain_answer.specs.Answers.{aggregates_of, key_cell, key_of, rows_at}

-- two orders in turn tie where both do
pub is_eq_then : (a b : Ordering) → is_eq (ordering_then a b) ≡ (is_eq a && is_eq b)
is_eq_then Less b = refl
is_eq_then Equal b = refl
is_eq_then Greater b = refl

-- keys of different lengths differ
pub key_too_long : (columns : List ℕ) (row key : List Val) → length columns ≡ 0 → 1 ≤ length key → eq_by_cmp row_cmp key (key_of columns row) ≡ false
key_too_long [] row [] none some = absurd (omega arith)
key_too_long [] row (v ∷ key) none some = refl
key_too_long (c ∷ columns) row key none some = absurd (omega arith)

pub key_too_short : (columns : List ℕ) (row key : List Val) → 1 ≤ length columns → length key ≡ 0 → eq_by_cmp row_cmp key (key_of columns row) ≡ false
key_too_short [] row key some none = absurd (omega arith)
key_too_short (c ∷ columns) row [] some none = refl
key_too_short (c ∷ columns) row (v ∷ key) some none = absurd (omega arith)

-- an empty key has no value
pub key_cell_of_none : (columns : List ℕ) (key : List Val) (column : ℕ) → length key ≡ 0 → key_cell columns key column ≡ Null
key_cell_of_none [] key column none = refl
key_cell_of_none (c ∷ columns) [] column none = refl
key_cell_of_none (c ∷ columns) (v ∷ key) column none = absurd (omega arith)

-- the groups of keys, one after another
pub groups_of_keys : (columns : List ℕ) (aggs : List Agg) (rows keys : List (List Val))
    → map (λ key. group_from (key, aggregates_of aggs (rows_at columns rows key))) keys
    ≡ map group_from (map (λ key. (key, aggregates_of aggs (values_at row_cmp (key_of columns) (λ row. row) rows key))) keys)
groups_of_keys columns aggs rows [] = refl
groups_of_keys columns aggs rows (key ∷ keys) =
    λ i. group_from (key, aggregates_of aggs (sym (map-id (rows_at columns rows key)) i)) ∷ groups_of_keys columns aggs rows keys i

pub groups_grouped : GroupsAreGrouped
groups_grouped column columns aggs rows = groups_of_keys (column ∷ columns) aggs rows (distinct row_cmp (map (key_of (column ∷ columns)) rows))
