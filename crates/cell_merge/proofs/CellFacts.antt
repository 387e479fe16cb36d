-- Cells of rows under new numbers.
use Rattle.std.proofs.Common.{◌≡◌, ◌<◌, ◌∙◌, ℕ, pos, List, [], ◌∷◌, map, length, Bool, true, false, refl, sym, ap, Some, None}
use mathlib.Core.Bool.{true≢false, false≢true}
use Rattle.std.specs.Prelude.{Contains, IfSome, IsTrue, Option, option_map}
use Rattle.std.specs.List.{AllByRecursion, cons_option, filter_map}
use Rattle.std.specs.List.Sorted.{IsStrictlySortedBy}
use Rattle.std.proofs.lemmas.List.{length-map}
use Rattle.cell_store.specs.Cells.{cell_of_items, form_of, ids_of_items, merged_cell}
use Rattle.cell_store.specs.declared.cell.Cell.{Cell}
use Rattle.cell_store.specs.declared.cell.Cell.TheVariants.{Distinct}
use Rattle.cell_store.specs.declared.cell.RowItem.{RowItem}
use Rattle.cell_store.proofs.KindFacts.{measure_of, value_of_cell}
use Rattle.cube_val.specs.declared.val.Val.{Val}
use Rattle.cube_val.specs.Order.{val_cmp}
use Rattle.dim_dictionary.specs.Dictionaries.{KeepsValues}
use Rattle.layer_builder.specs.Base.{dict_at, item_of, measures_from, next_after, number_in, value_at}
use Rattle.layer_builder.proofs.MeaningFacts.{number-fits}
use Rattle.measure_laws.specs.Ids.{different, ids_of}
use Rattle.measure_laws.specs.IdFacts.{same_ids}
use Rattle.measure_laws.specs.Kinds.{are_ids, dict_after, has_dictionary, item_kind}
use Rattle.measure_laws.specs.declared.kinds.ItemKind.{ItemKind}
use Rattle.measure_laws.specs.declared.kinds.ItemKind.TheVariants.{Rows, Values, Numbers, Ids}
use Rattle.measure_laws.specs.declared.measure.MeasureForm.{MeasureForm}
use Rattle.measure_laws.specs.declared.measure.MeasureForm.TheVariants as form
use Rattle.plain_answer.specs.Aggregates.{known}
use Rattle.plain_answer.specs.declared.ask.Agg.{Agg}
use Rattle.plain_answer.specs.Kinds.{form_of_kind}
use Rattle.cell_merge.specs.Renumbered.{new_number, remap_at, renumbered_cell, renumbered_cells}
use Rattle.cell_merge.proofs.NumberFacts.{different-moved, number-moved}

-- the cell of no item, with a cell of its form merged into it, is that cell
pub merged_into_none : (c : Cell) → merged_cell (cell_of_items (form_of c) []) c ≡ c
merged_into_none c =
    let m = measure_of (form_of c) in
    let v = value_of_cell c in
    (λ i. merged_cell (sym (m.cell-of []) i) (sym v.1 i)) ∙ sym (m.cell-merge (m.of []) v.0) ∙ ap m.cell (m.laws.neutral v.0) ∙ v.1

-- a cell without a set stays
cell-alone : (f : MeasureForm) (numbers : List ℕ) (items : List RowItem) → has_dictionary f ≡ false → renumbered_cell numbers (cell_of_items f items) ≡ cell_of_items f items
cell-alone form.Count numbers items e = refl
cell-alone form.Known numbers items e = refl
cell-alone form.Sum numbers items e = refl
cell-alone form.Min numbers items e = refl
cell-alone form.Max numbers items e = refl
cell-alone form.Distinct numbers items e = absurd (true≢false e)

-- a set of moved items
set-moved : (f : MeasureForm) (numbers : List ℕ) (xs ys : List RowItem) → has_dictionary f ≡ true → ids_of_items ys ≡ map (new_number numbers) (ids_of_items xs)
    → different (map (new_number numbers) (different (ids_of_items xs))) ≡ different (map (new_number numbers) (ids_of_items xs))
    → renumbered_cell numbers (cell_of_items f xs) ≡ cell_of_items f ys
set-moved form.Count numbers xs ys h e moved = absurd (false≢true h)
set-moved form.Known numbers xs ys h e moved = absurd (false≢true h)
set-moved form.Sum numbers xs ys h e moved = absurd (false≢true h)
set-moved form.Min numbers xs ys h e moved = absurd (false≢true h)
set-moved form.Max numbers xs ys h e moved = absurd (false≢true h)
set-moved form.Distinct numbers xs ys h e moved =
    ap Distinct (same_ids _ (ids_of (ids_of_items ys)) (sym (ap length e ∙ length-map (ids_of_items xs) (new_number numbers))) (moved ∙ ap different (sym e)))

-- a measure that isn't of ids takes the same of a value over each dictionary
item-alone : (k : ItemKind) (old merged : List Val) (v : Val) → are_ids k ≡ false → item_of k old v ≡ item_of k merged v
item-alone Rows old merged v e = refl
item-alone Values old merged v e = refl
item-alone Numbers old merged v e = refl
item-alone Ids old merged v e = absurd (true≢false e)

module _ (merged old : List Val) (numbers : List ℕ) (up : IsStrictlySortedBy val_cmp merged) (up_old : IsStrictlySortedBy val_cmp old) (keeps : KeepsValues merged old numbers)
    (value : List Val → Val) where
  abbrev items : ItemKind → List Val → List (List Val) → List RowItem
  items k dict rows = filter_map (λ row. item_of k dict (value row)) rows

  -- the dictionary has the row's value, if it isn't null
  abbrev IsThere : List Val → Type 0
  IsThere row = IfSome (known (value row)) (λ v. Contains old v)

  abbrev item_at : List Val → Val → RowItem
  item_at dict w = record { number = pos 0; id = number_in dict w }

  ids-moved : (k : ItemKind) → are_ids k ≡ true → (rows : List (List Val)) → AllByRecursion IsThere rows
      → ids_of_items (items k merged rows) ≡ map (new_number numbers) (ids_of_items (items k old rows))
  ids-moved Rows e rows all = absurd (false≢true e)
  ids-moved Values e rows all = absurd (false≢true e)
  ids-moved Numbers e rows all = absurd (false≢true e)
  ids-moved Ids e [] all = refl
  ids-moved Ids e (row ∷ rows) all = by (known (value row)) all.0 (ids-moved Ids e rows all.1)
    where
      by : (o : Option Val) → IfSome o (λ v. Contains old v) → ids_of_items (items Ids merged rows) ≡ map (new_number numbers) (ids_of_items (items Ids old rows))
          → ids_of_items (cons_option (option_map (item_at merged) o) (items Ids merged rows)) ≡ map (new_number numbers) (ids_of_items (cons_option (option_map (item_at old) o) (items Ids old rows)))
      by None here rest = rest
      by (Some v) here rest = let moved = number-moved merged old numbers up up_old keeps v here in λ i. sym moved i ∷ rest i

  ids-fit : (k : ItemKind) → are_ids k ≡ true → (rows : List (List Val)) → AllByRecursion IsThere rows → AllByRecursion (λ id. id < length old) (ids_of_items (items k old rows))
  ids-fit Rows e rows all = absurd (false≢true e)
  ids-fit Values e rows all = absurd (false≢true e)
  ids-fit Numbers e rows all = absurd (false≢true e)
  ids-fit Ids e [] all = tt
  ids-fit Ids e (row ∷ rows) all = by (known (value row)) all.0 (ids-fit Ids e rows all.1)
    where
      by : (o : Option Val) → IfSome o (λ v. Contains old v) → AllByRecursion (λ id. id < length old) (ids_of_items (items Ids old rows))
          → AllByRecursion (λ id. id < length old) (ids_of_items (cons_option (option_map (item_at old) o) (items Ids old rows)))
      by None here rest = rest
      by (Some v) here rest = (number-fits old v up_old here, rest)

  pub set-of-rows : (f : MeasureForm) → has_dictionary f ≡ true → (rows : List (List Val)) → AllByRecursion IsThere rows
      → renumbered_cell numbers (cell_of_items f (items (item_kind f) old rows)) ≡ cell_of_items f (items (item_kind f) merged rows)
  set-of-rows f e rows all =
      set-moved f numbers (items (item_kind f) old rows) (items (item_kind f) merged rows) e (ids-moved (item_kind f) e rows all)
      (different-moved merged old numbers up up_old keeps (ids_of_items (items (item_kind f) old rows)) (ids-fit (item_kind f) e rows all))

pub cell-of-rows : (f : MeasureForm) (merged old : List Val) (numbers : List ℕ) (value : List Val → Val) → has_dictionary f ≡ false → (rows : List (List Val))
    → renumbered_cell numbers (cell_of_items f (filter_map (λ row. item_of (item_kind f) old (value row)) rows)) ≡ cell_of_items f (filter_map (λ row. item_of (item_kind f) merged (value row)) rows)
cell-of-rows f merged old numbers value e rows =
    cell-alone f numbers (filter_map (λ row. item_of (item_kind f) old (value row)) rows) e
    ∙ (λ i. cell_of_items f (filter_map (λ row. item-alone (item_kind f) old merged (value row) e i) rows))
