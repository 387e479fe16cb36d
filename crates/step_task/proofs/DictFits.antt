-- The dictionaries of flat rows are those of a product.
use Rattle.std.proofs.Common.{◌≡◌, ◌≤◌, ◌++◌, ◌∙◌, ℕ, zero, suc, Bool, true, false, cond, List, [], ◌∷◌, Some, None, length, get_or, map, refl, sym, ap, subst, arith}
use Rattle.std.specs.Prelude.{◌||◌, Option}
use Rattle.std.specs.List.{AllByRecursion, cons_option, filter_map, list_all, list_any, range_with_len}
use Rattle.std.specs.Ordering.{eq_by_cmp}
use Rattle.std.proofs.lemmas.List.{length-map, map-append}
use Rattle.aggregation.proofs.DistinctFacts.{length-distinct}
use Rattle.aggregation.proofs.GroupFacts.{any-distinct, itself, rises-distinct}
use Rattle.cube_desc.specs.Cube.{Cube}
use Rattle.cube_desc.specs.FlatRow.{place_of}
use Rattle.cube_fields.specs.Dicts.{FitsDict, FitsDicts}
use Rattle.cube_val.specs.declared.val.Val.{Val}
use Rattle.cube_val.specs.declared.val.Val.TheVariants.{Null, Int, Text}
use Rattle.cube_val.specs.Order.{val_cmp}
use Rattle.cube_val.specs.OrderLaws.{val_cmp_total}
use Rattle.cube_val.proofs.OrderFacts.{val_cmp_exact}
use Rattle.dim_dictionary.specs.Dictionaries.{dictionary_of}
use Rattle.plain_answer.specs.Aggregates.{cell, known}
use Rattle.step_codec.specs.Bodies.{FitsHolding, holds, is_in}
use Rattle.step_codec.specs.Layouts.{dict_form, row_limit}
use Rattle.step_fields.specs.Fits.{FitsColumn, FitsRow}
use Rattle.step_fields.specs.declared.column.Column.{Column}
use Rattle.cube_desc.specs.Kept.{dict_place, dict_places, distinct_places, kept_behind}
use Rattle.cube_desc.specs.Sound.{IsSound}
use Rattle.cube_desc.specs.declared.kept.Kept.{Kept}
use Rattle.cube_desc.proofs.KeptFacts.{IsKept, all_kept}
use Rattle.measure_laws.specs.Kinds.{has_dictionary}
use Rattle.step_files.specs.Cubes.{dict_column, flat_columns, layout_of, no_column}
use Rattle.step_files.specs.Tasks.{FitsFlat}
use Rattle.step_compute.specs.Values.{dict_value, known_in, values_in}
use Rattle.table_reader.specs.Keys.{val_at}
use Rattle.cube_fields.proofs.MergeFits.{put}
use Rattle.step_task.proofs.FlatFits.{value_fits}
use Rattle.step_task.proofs.KeptFits.{kept_column, no_nulls}

-- ---- values

pub cell_is : (row : List Val) (i : ℕ) → cell row i ≡ val_at row i
cell_is [] i = refl
cell_is (v ∷ row) zero = refl
cell_is (v ∷ row) (suc i) = cell_is row i

all_distinct : (P : Val → Type 0) (values : List Val) → AllByRecursion P values → AllByRecursion P (dictionary_of values)
all_distinct P [] all = tt
all_distinct P (v ∷ values) all = put val_cmp P (dictionary_of values) v (all_distinct P values all.1) all.0

module _ (columns : List Column) (place : ℕ) where
  values_fit : (rows : List (List Val)) → AllByRecursion (FitsRow columns) rows → AllByRecursion (FitsColumn (get_or columns place no_column)) (values_in rows place)
  values_fit [] all = tt
  values_fit (row ∷ rows) all = (subst (FitsColumn (get_or columns place no_column)) (sym (cell_is row place)) (value_fits columns row place all.0), values_fit rows all.1)

  dict_fits : (rows : List (List Val)) → length rows ≤ row_limit → AllByRecursion (FitsRow columns) rows → FitsDict (dict_form row_limit (dict_column columns place)) (dictionary_of (values_in rows place))
  dict_fits rows few all = record {
    few = omega (arith, few, length-distinct val_cmp_total val_cmp_exact (values_in rows place), length-map rows (λ (row : List Val). cell row place));
    fit = all_distinct (FitsColumn (get_or columns place no_column)) (values_in rows place) (values_fit rows all);
    rising = rises-distinct val_cmp_total val_cmp_exact (values_in rows place);
  }

dicts_fit : (columns : List Column) (rows : List (List Val)) (places : List ℕ) → length rows ≤ row_limit → AllByRecursion (FitsRow columns) rows
    → FitsDicts (map (dict_form row_limit) (map (dict_column columns) places)) (map (λ place. dictionary_of (values_in rows place)) places)
dicts_fit columns rows [] few all = tt
dicts_fit columns rows (place ∷ places) few all = (dict_fits columns place rows few all, dicts_fit columns rows places few all)

-- ---- rows

-- each value of a column is in its dictionary
among : (rows : List (List Val)) (place : ℕ) (row : List Val) → list_any (eq_by_cmp val_cmp (cell row place)) (values_in rows place) ≡ true → is_in (dictionary_of (values_in rows place)) (val_at row place) ≡ true
among rows place row h =
    subst (λ v. list_any (eq_by_cmp val_cmp v) (dictionary_of (values_in rows place)) ≡ true) (cell_is row place) (any-distinct val_cmp_total val_cmp_exact (eq_by_cmp val_cmp (cell row place)) (values_in rows place) ∙ h)

held : (columns : List Column) (rows : List (List Val)) (row : List Val) (places : List ℕ) → ((place : ℕ) → list_any (eq_by_cmp val_cmp (cell row place)) (values_in rows place) ≡ true)
    → holds (map (dict_column columns) places) (map (λ place. dictionary_of (values_in rows place)) places) row ≡ true
held columns rows row [] there = refl
held columns rows row (place ∷ places) there =
    ap (λ b. cond b (holds (map (dict_column columns) places) (map (λ place. dictionary_of (values_in rows place)) places) row) false) (among rows place row (there place)) ∙ held columns rows row places there

all_held : (columns : List Column) (rows : List (List Val)) (places : List ℕ) (some : List (List Val))
    → ((v : List Val) (place : ℕ) → list_any (eq_by_cmp val_cmp (cell v place)) (values_in some place) ≡ true → list_any (eq_by_cmp val_cmp (cell v place)) (values_in rows place) ≡ true)
    → list_all (holds (map (dict_column columns) places) (map (λ place. dictionary_of (values_in rows place)) places)) some ≡ true
all_held columns rows places [] within = refl
all_held columns rows places (row ∷ some) within =
    let own = held columns rows row places (λ place. within row place (ap (λ b. b || list_any (eq_by_cmp val_cmp (cell row place)) (values_in some place)) (itself val_cmp_total val_cmp_exact (cell row place)))) in
    let rest = all_held columns rows places some (λ v place h. within v place (later (eq_by_cmp val_cmp (cell v place) (cell row place)) (list_any (eq_by_cmp val_cmp (cell v place)) (values_in some place)) h)) in
    cc
  where
    later : (a b : Bool) → b ≡ true → (a || b) ≡ true
    later true b e = refl
    later false b e = e

-- ---- columns without null

known_some : (v : Val) → (v ≡ Null → ⊥) → known v ≡ Some v
known_some Null there = absurd (there refl)
known_some (Int n) there = refl
known_some (Text t) there = refl

-- the known values of a column in which no null stands are its values
known_same : (columns : List Column) (place : ℕ) (rows : List (List Val)) → (get_or columns place no_column).no_null ≡ true → AllByRecursion (FitsRow columns) rows → known_in rows place ≡ values_in rows place
known_same columns place [] none all = refl
known_same columns place (row ∷ rows) none all =
    let fits : FitsColumn (get_or columns place no_column) (cell row place) = subst (FitsColumn (get_or columns place no_column)) (sym (cell_is row place)) (value_fits columns row place all.0) in
    let there : cell row place ≡ Null → ⊥ = no_nulls (get_or columns place no_column) (cell row place) none fits in
    ap (λ (o : Option Val). cons_option o (known_in rows place)) (known_some (cell row place) there) ∙ ap (λ l. cell row place ∷ l) (known_same columns place rows none all.1)

abbrev Same : List (List Val) → List ℕ → Type 0
Same flat places = map (λ place. dictionary_of (known_in flat place)) places ≡ map (λ place. dictionary_of (values_in flat place)) places

-- the dictionaries of measures are those of their columns' values
distinct_same : (c : Cube) → IsSound c → (flat : List (List Val)) → AllByRecursion (FitsRow (flat_columns c)) flat → (ks : List Kept) → AllByRecursion (IsKept c) ks
    → map (λ place. dictionary_of (known_in flat place)) (filter_map (dict_place c) ks) ≡ map (λ place. dictionary_of (values_in flat place)) (filter_map (dict_place c) ks)
distinct_same c s flat fits [] kept = refl
distinct_same c s flat fits (k ∷ ks) kept = by (has_dictionary k.form) (distinct_same c s flat fits ks kept.1)
  where
    own : dictionary_of (known_in flat (place_of c k.column)) ≡ dictionary_of (values_in flat (place_of c k.column))
    own = ap dictionary_of (known_same (flat_columns c) (place_of c k.column) flat (kept_column c s k kept.0).no_null fits)

    by : (b : Bool) → Same flat (filter_map (dict_place c) ks) → Same flat (cons_option (cond b (Some (place_of c k.column)) None) (filter_map (dict_place c) ks))
    by true rest = λ i. own i ∷ rest i
    by false rest = rest

pub dict_value_is : (c : Cube) → IsSound c → (flat : List (List Val)) → AllByRecursion (FitsRow (flat_columns c)) flat → dict_value c flat ≡ map (λ place. dictionary_of (values_in flat place)) (dict_places c)
unfolding distinct_places
dict_value_is c s flat fits =
    ap (λ l. map (λ place. dictionary_of (values_in flat place)) (range_with_len 0 (length c.rowkey)) ++ l) (distinct_same c s flat fits (kept_behind c) (all_kept c s))
    ∙ sym (map-append (λ place. dictionary_of (values_in flat place)) (range_with_len 0 (length c.rowkey)) (distinct_places c))

-- ---- dictionaries

pub dicts_hold : (c : Cube) → IsSound c → (flat : List (List Val)) → FitsFlat (layout_of c) flat → FitsHolding (layout_of c) row_limit flat (dict_value c flat)
unfolding layout_of
dicts_hold c s flat h =
    subst (λ (dicts : List (List Val)). FitsHolding (layout_of c) row_limit flat dicts) (sym (dict_value_is c s flat h.1))
    (dicts_fit (flat_columns c) flat (dict_places c) h.0 h.1, all_held (flat_columns c) flat (dict_places c) flat (λ v place e. e))
