-- The aggregates of a base cuboid, one after another.
use Rattle.std.proofs.Common.{◌≡◌, ◌≤◌, ◌<◌, ◌+◌, ◌∷◌, ◌∙◌, [], ℕ, List, None, length, map, drop, refl, ap, arith, get_or, sym}
use mathlib.Core.Bool.{false≢true}
use Rattle.std.specs.Prelude.{IsTrue}
use Rattle.std.proofs.lemmas.List.{drop_more}
use Rattle.measure_laws.specs.declared.kinds.ItemKind.{ItemKind}
use Rattle.measure_laws.specs.declared.kinds.ItemKind.TheVariants.{Rows, Values, Numbers, Ids}
use Rattle.measure_laws.specs.Kinds.{are_ids, has_dictionary, item_kind, place_after}
use Rattle.cube_val.specs.declared.val.ColType.TheVariants as ty
use Rattle.plain_answer.specs.declared.ask.Agg.{Agg}
use Rattle.plain_answer.specs.declared.ask.AggKind.{AggKind}
use Rattle.plain_answer.specs.declared.ask.AggKind.TheVariants.{Count}
use Rattle.cube_val.specs.declared.val.Val.{Val}
use Rattle.cell_gather.specs.Gathers.{cell_of, cells_of, forms_of}
use Rattle.plain_answer.specs.Kinds.{form_of_kind}
use Rattle.layer_builder.specs.Base.{count_of_distincts, dict_at, measure_of, measures_from, next_after}

place_after-add : (k : ItemKind) (a b : ℕ) → place_after k a + b ≡ a + place_after k b
place_after-add Rows a b = refl
place_after-add Values a b = refl
place_after-add Numbers a b = refl
place_after-add Ids a b = omega arith

pub next_after-add : (kind : AggKind) (a b : ℕ) → next_after kind a + b ≡ a + next_after kind b
next_after-add kind a b = place_after-add (item_kind (form_of_kind kind)) a b

place_at_most : (k : ItemKind) (a : ℕ) → place_after k a ≤ a + 1
place_at_most Rows a = omega arith
place_at_most Values a = omega arith
place_at_most Numbers a = omega arith
place_at_most Ids a = omega arith

pub next_at_most : (kind : AggKind) (a : ℕ) → next_after kind a ≤ a + 1
next_at_most kind a = place_at_most (item_kind (form_of_kind kind)) a

one_place : (k : ItemKind) (a : ℕ) → IsTrue (are_ids k) → place_after k a ≡ a + 1
one_place Rows a h = absurd (false≢true h)
one_place Values a h = absurd (false≢true h)
one_place Numbers a h = absurd (false≢true h)
one_place Ids a h = refl

-- ---- one aggregate more

-- what a read past the end of aggregates shows
abbrev pub no_agg : Agg
no_agg = record { kind = Count; column = None; ty = ty.Int }

pub one_more_place : (aggs : List Agg) (i n : ℕ) → i < length aggs → next_after (get_or aggs i no_agg).kind n + count_of_distincts (drop (i + 1) aggs) ≡ n + count_of_distincts (drop i aggs)
one_more_place aggs i n lt =
    next_after-add (get_or aggs i no_agg).kind n (count_of_distincts (drop (i + 1) aggs)) ∙ ap (λ l. n + count_of_distincts l) (sym (drop_more aggs i no_agg lt))

-- a COUNT_DISTINCT that comes next has a place
pub has_place : (aggs : List Agg) (i n most : ℕ) → i < length aggs → IsTrue (has_dictionary (form_of_kind (get_or aggs i no_agg).kind)) → n + count_of_distincts (drop i aggs) ≤ most → n < most
has_place aggs i n most lt has few =
    let rest = count_of_distincts (drop (i + 1) aggs) in
    let count : count_of_distincts (drop i aggs) ≡ rest + 1 = ap count_of_distincts (drop_more aggs i no_agg lt) ∙ one_place (item_kind (form_of_kind (get_or aggs i no_agg).kind)) rest has in
    omega arith

-- its cell, and those of the aggregates after it
pub one_more_cell : (dicts : List (List Val)) (aggs : List Agg) (i n : ℕ) (rows : List (List Val)) → i < length aggs
    → cell_of (measure_of (get_or aggs i no_agg) (dict_at dicts n)) rows ∷ cells_of (measures_from dicts (next_after (get_or aggs i no_agg).kind n) (drop (i + 1) aggs)) rows
    ≡ cells_of (measures_from dicts n (drop i aggs)) rows
one_more_cell dicts aggs i n rows lt = ap (λ l. cells_of (measures_from dicts n l) rows) (sym (drop_more aggs i no_agg lt))

-- the forms of the measures are those of the aggregates
pub forms_from : (dicts : List (List Val)) (place : ℕ) (aggs : List Agg) → forms_of (measures_from dicts place aggs) ≡ map (λ agg. form_of_kind agg.kind) aggs
forms_from dicts place [] = refl
forms_from dicts place (agg ∷ aggs) = ap (λ l. form_of_kind agg.kind ∷ l) (forms_from dicts (next_after agg.kind place) aggs)
