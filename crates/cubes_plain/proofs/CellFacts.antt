-- The cuboid of D1 in dictionary numbers has the groups of the text.
use Rattle.std.proofs.Common.{◌≡◌, ◌∙◌, ℕ, zero, suc, List, [], ◌∷◌, ◌++◌, Some, map, get_or, refl, ap, sym, subst, arith, rules}
use Rattle.std.specs.declared.cmp.Ordering.{Ordering}
use Rattle.std.specs.declared.cmp.Ordering.TheVariants.{Less, Equal, Greater}
use Rattle.std.specs.Prelude.{Bool, Option, None, cond, false, option_map, true}
use Rattle.std.specs.List.{All, AllByRecursion, Contains, cons_option, filter, filter_map, flat_map, slice_get}
use Rattle.std.specs.List.Sorted.{IsStrictlySortedBy}
use Rattle.std.specs.Ordering.{eq_by_cmp, nat_cmp, ordering_then}
use Rattle.std.proofs.lemmas.List.{get_or_default, map-id}
use Rattle.std.proofs.lemmas.List.Elements.{All-from_recursion, recursion_from_All}
use Rattle.std.proofs.lemmas.Nat.Bits.{bit_at_ones_above}
use Rattle.std.proofs.lemmas.Option.{get_or_from_slice_get, slice_get-get_or, slice_get_within, unwrap_or-slice_get}
use Rattle.agg_group.specs.Mask.{IsWithin}
use Rattle.aggregation.specs.Groups.{aggregate, distinct, values_at}
use Rattle.aggregation.proofs.GroupFacts.{rises-distinct}
use Rattle.cell_gather.specs.Gathers.{RowMeasure, aggregated, cells_of}
use Rattle.cell_gather.specs.Keys.{dims_of}
use Rattle.cell_store.specs.Cells.{CellRows, key_cmp, numbers_of_items}
use Rattle.cell_store.specs.declared.cell.Cell.{Cell}
use Rattle.cell_store.specs.declared.cell.Cell.TheVariants.{Sum}
use Rattle.cell_store.specs.declared.cell.RowItem.{RowItem}
use Rattle.cube_val.proofs.OrderFacts.{val_cmp_exact, val_cmp_same}
use Rattle.cube_val.specs.Order.{number_of, val_cmp}
use Rattle.cube_val.specs.OrderLaws.{val_cmp_total}
use Rattle.cube_val.specs.Values.{FitsType}
use Rattle.cube_val.specs.declared.val.ColType.TheVariants as ty
use Rattle.cube_val.specs.declared.val.Val.{Val}
use Rattle.cube_val.specs.declared.val.Val.TheVariants.{Null, Int, Text}
use Rattle.dim_dictionary.proofs.DictLemmas.{count_to_found, keeps_order, keeps_values}
use Rattle.layer_builder.specs.Base.{base_mask, item_of as taken_of, measures_from, number_in}
use Rattle.layer_builder.specs.Cuboids.{IsCuboid, key_by}
use Rattle.measure_laws.specs.declared.kinds.ItemKind.TheVariants.{Numbers}
use Rattle.measure_laws.specs.Measures.{Summed, summed}
use Rattle.plain_answer.specs.Aggregates.{cell}
use Rattle.cubes_plain.specs.Cuboids.{IsSumRow, column_dict, d1_alone, dicts_of, row_line, sum_of_m}
use Rattle.cubes_plain.specs.Folds.{group_line}
use Rattle.cubes_plain.specs.Rows.{IsFactRow, IsInt, d1_of, item_of, m_of}
use Rattle.cubes_plain.proofs.ImageFacts.{all-distinct, grouped-image}

-- ---- numbers of values

-- a value of a dictionary stands at its number
found : (dict : List Val) (v : Val) → IsStrictlySortedBy val_cmp dict → Contains dict v → slice_get dict (number_in dict v) ≡ Some v
found dict v up there =
    let at : slice_get dict there.0 ≡ Some v = slice_get-get_or dict there.0 v there.1 ∙ ap Some there.2 in
    let place : number_in dict v ≡ there.0 = count_to_found dict there.0 v up there.1 (λ d. ap (λ y. val_cmp y v) (get_or_from_slice_get dict there.0 v d at) ∙ val_cmp_same v) in
    ap (slice_get dict) place ∙ at

-- keys of one number are in the order of the numbers
one_number : (a b : ℕ) → key_cmp (a ∷ []) (b ∷ []) ≡ nat_cmp a b
one_number a b = by (nat_cmp a b)
  where
    by : (r : Ordering) → ordering_then r Equal ≡ r
    by Less = refl
    by Equal = refl
    by Greater = refl

key_alike : (dict : List Val) → IsStrictlySortedBy val_cmp dict → (v w : Val) → Contains dict v → Contains dict w → key_cmp (number_in dict v ∷ []) (number_in dict w ∷ []) ≡ val_cmp v w
key_alike dict up v w has_v has_w = one_number (number_in dict v) (number_in dict w) ∙ keeps_order dict _ _ v w up (found dict v up has_v) (found dict w up has_w)

-- ---- the dictionary of D1

abbrev dict_of : List (List Val) → List Val
dict_of rows = column_dict rows 0

first_of : (rows : List (List Val)) → map (λ row. cell row 0) rows ≡ map d1_of rows
first_of rows = λ i. map (λ row. unwrap_or-slice_get row 0 Null i) rows

dict_rises : (rows : List (List Val)) → IsStrictlySortedBy val_cmp (dict_of rows)
dict_rises rows = rises-distinct val_cmp_total val_cmp_exact (map (λ row. cell row 0) rows)

each_is_there : (values : List Val) → AllByRecursion (Contains (distinct val_cmp values)) values
each_is_there values =
    recursion_from_All (Contains (distinct val_cmp values)) values (λ k d within. (keeps_values values (get_or values k d)).1 (k, within, get_or_default values k (get_or values k d) d within))

d1_is_there : (rows : List (List Val)) → AllByRecursion (Contains (dict_of rows)) (map d1_of rows)
d1_is_there rows = subst (λ (l : List Val). AllByRecursion (Contains (dict_of rows)) l) (first_of rows) (each_is_there (map (λ row. cell row 0) rows))

-- ---- the cuboid

-- the groups of the text
abbrev pub groups_by_d1 : List (List Val) → List (Val × Summed)
groups_by_d1 rows = aggregate val_cmp d1_of item_of summed rows

-- the row of a group
abbrev pub numbered : List Val → Val × Summed → List ℕ × List Cell
numbered dict group = (number_in dict group.0 ∷ [], Sum group.1 ∷ [])

abbrev measures : List (List Val) → List (RowMeasure (List Val))
measures rows = measures_from (dicts_of rows) 2 (sum_of_m ∷ [])

abbrev take_m : List Val → Option RowItem
take_m row = taken_of Numbers [] (cell row 2)

-- a value of M is a number, which is what a sum takes
one_number_of : (m : Val) → IsInt m → option_map (λ (item : RowItem). item.number) (taken_of Numbers [] m) ≡ Some (number_of m)
one_number_of Null h = absurd h
one_number_of (Int n) h = refl
one_number_of (Text t) h = absurd h

-- the numbers of rows of facts
number_is : (rows : List (List Val)) → AllByRecursion IsFactRow rows → numbers_of_items (filter_map take_m rows) ≡ map item_of rows
number_is [] all = refl
number_is (row ∷ rows) all =
    by (take_m row) (ap (λ m. option_map (λ (item : RowItem). item.number) (taken_of Numbers [] m)) (unwrap_or-slice_get row 2 Null) ∙ one_number_of (m_of row) all.0.3) (number_is rows all.1)
  where
    by : (o : Option RowItem) → option_map (λ (item : RowItem). item.number) o ≡ Some (item_of row) → numbers_of_items (filter_map take_m rows) ≡ map item_of rows
        → numbers_of_items (cons_option o (filter_map take_m rows)) ≡ item_of row ∷ map item_of rows
    by None e rest = absurd cc
    by (Some item) e rest = let same : item.number ≡ item_of row = cc in λ i. same i ∷ rest i

all_picked : (P : List Val → Type 0) (t : List Val → Bool) (rows : List (List Val)) → AllByRecursion P rows → AllByRecursion P (filter t rows)
all_picked P t [] all = tt
all_picked P t (r ∷ rows) all = by (t r) (all_picked P t rows all.1)
  where
    by : (b : Bool) → AllByRecursion P (filter t rows) → AllByRecursion P (cond b (r ∷ filter t rows) (filter t rows))
    by true more = (all.0, more)
    by false more = more

-- the cells of the rows of a D1
cells_at : (rows : List (List Val)) → AllByRecursion IsFactRow rows → (d1 : Val) → cells_of (measures rows) (values_at val_cmp d1_of (λ row. row) rows d1) ≡ Sum (summed (values_at val_cmp d1_of item_of rows d1)) ∷ []
cells_at rows all d1 =
    let own = filter (λ r. eq_by_cmp val_cmp d1 (d1_of r)) rows in
    ap (λ l. cells_of (measures rows) l) (map-id own) ∙ ap (λ l. Sum (summed l) ∷ []) (number_is own (all_picked IsFactRow (λ r. eq_by_cmp val_cmp d1 (d1_of r)) rows all))

numbered_cells : (rows : List (List Val)) → AllByRecursion IsFactRow rows → (ds : List Val)
    → map {B = List ℕ × List Cell} (λ d1. (number_in (dict_of rows) d1 ∷ [], cells_of (measures rows) (values_at val_cmp d1_of (λ row. row) rows d1))) ds
    ≡ map (numbered (dict_of rows)) (map {B = Val × Summed} (λ d1. (d1, summed (values_at val_cmp d1_of item_of rows d1))) ds)
numbered_cells rows all [] = refl
numbered_cells rows all (d ∷ ds) = let here = cells_at rows all d in let rest = numbered_cells rows all ds in λ i. (number_in (dict_of rows) d ∷ [], here i) ∷ rest i

-- the aggregate by the number of D1 has the groups of the text
aggregated_groups : (rows : List (List Val)) → AllByRecursion IsFactRow rows → aggregated (measures rows) (λ row. number_in (dict_of rows) (cell row 0) ∷ []) rows ≡ map (numbered (dict_of rows)) (groups_by_d1 rows)
aggregated_groups rows all =
    (λ i. aggregated (measures rows) (λ row. number_in (dict_of rows) (unwrap_or-slice_get row 0 Null i) ∷ []) rows)
    ∙ grouped-image val_cmp key_cmp (λ v. number_in (dict_of rows) v ∷ []) (Contains (dict_of rows)) (key_alike (dict_of rows) (dict_rises rows)) d1_of (λ row. row) (cells_of (measures rows)) rows
    (d1_is_there rows)
    ∙ numbered_cells rows all (distinct val_cmp (map d1_of rows))

-- the key by D1 is its number
key_by_d1 : (rows : List (List Val)) (row : List Val) → key_by (dicts_of rows) d1_alone row ≡ number_in (dict_of rows) (cell row 0) ∷ []
unfolding dims_of
key_by_d1 rows row = refl

-- the cuboid by D1 has the groups of the text
pub cuboid_groups : (rows : List (List Val)) (table : CellRows) → All IsFactRow rows → IsCuboid (sum_of_m ∷ []) (dicts_of rows) rows d1_alone table → table.rows ≡ map (numbered (dict_of rows)) (groups_by_d1 rows)
cuboid_groups rows table facts is = is.rows ∙ (λ i. aggregated (measures rows) (λ row. key_by_d1 rows row i) rows) ∙ aggregated_groups rows (recursion_from_All IsFactRow rows facts)

-- ---- the rows of the cuboid

-- the D1 of each group is in the dictionary
abbrev IsGroup : List Val → Val × Summed → Type 0
IsGroup dict group = Contains dict group.0

groups_are_there : (rows : List (List Val)) → AllByRecursion (IsGroup (dict_of rows)) (groups_by_d1 rows)
groups_are_there rows = each (distinct val_cmp (map d1_of rows)) (all-distinct val_cmp (Contains (dict_of rows)) (map d1_of rows) (d1_is_there rows))
  where
    each : (ds : List Val) → AllByRecursion (Contains (dict_of rows)) ds → AllByRecursion (IsGroup (dict_of rows)) (map {B = Val × Summed} (λ d1. (d1, summed (values_at val_cmp d1_of item_of rows d1))) ds)
    each [] all = tt
    each (d ∷ ds) all = (all.0, each ds all.1)

sum_rows : (dict : List Val) (groups : List (Val × Summed)) → IsStrictlySortedBy val_cmp dict → AllByRecursion (IsGroup dict) groups → AllByRecursion (IsSumRow dict) (map (numbered dict) groups)
sum_rows dict [] up all = tt
sum_rows dict (g ∷ groups) up all =
    (record { width = refl; number = slice_get_within dict (number_in dict g.0) g.0 (found dict g.0 up all.0); forms = refl }, sum_rows dict groups up all.1)

-- each row of the cuboid has a number of the dictionary and a sum
pub cuboid_rows : (rows : List (List Val)) → All (IsSumRow (dict_of rows)) (map (numbered (dict_of rows)) (groups_by_d1 rows))
cuboid_rows rows =
    All-from_recursion (IsSumRow (dict_of rows)) (map (numbered (dict_of rows)) (groups_by_d1 rows)) (sum_rows (dict_of rows) (groups_by_d1 rows) (dict_rises rows) (groups_are_there rows))

lines_of : (dict : List Val) (groups : List (Val × Summed)) → IsStrictlySortedBy val_cmp dict → AllByRecursion (IsGroup dict) groups
    → flat_map (row_line dict) (map (numbered dict) groups) ≡ flat_map group_line groups
lines_of dict [] up all = refl
lines_of dict (g ∷ groups) up all =
    let value : get_or dict (number_in dict g.0) Null ≡ g.0 = get_or_from_slice_get dict (number_in dict g.0) g.0 Null (found dict g.0 up all.0) in
    let rest = lines_of dict groups up all.1 in
    λ i. group_line (value i, g.1) ++ rest i

-- their lines are those of the groups
pub cuboid_lines : (rows : List (List Val)) → flat_map (row_line (dict_of rows)) (map (numbered (dict_of rows)) (groups_by_d1 rows)) ≡ flat_map group_line (groups_by_d1 rows)
cuboid_lines rows = lines_of (dict_of rows) (groups_by_d1 rows) (dict_rises rows) (groups_are_there rows)

firsts_fit : (rows : List (List Val)) → AllByRecursion IsFactRow rows → AllByRecursion (FitsType ty.Text) (map d1_of rows)
firsts_fit [] all = tt
firsts_fit (r ∷ rows) all = (all.0.1, firsts_fit rows all.1)

-- the values of D1 are texts or null
pub dict_fits : (rows : List (List Val)) → All IsFactRow rows → All (FitsType ty.Text) (dict_of rows)
dict_fits rows facts =
    let fit : AllByRecursion (FitsType ty.Text) (distinct val_cmp (map d1_of rows))
    = all-distinct val_cmp (FitsType ty.Text) (map d1_of rows) (firsts_fit rows (recursion_from_All IsFactRow rows facts)) in
    All-from_recursion (FitsType ty.Text) (dict_of rows) (subst (λ (l : List Val). AllByRecursion (FitsType ty.Text) (distinct val_cmp l)) (sym (first_of rows)) fit)

-- ---- the dimension

pub d1_within : IsWithin d1_alone (base_mask 2)
d1_within zero h = refl
d1_within (suc d) h = let none = bit_at_ones_above 1 (suc d) (omega arith) in search rules
