-- The cells of each form as one measure: what they are of items and how they are merged, by the laws of their form.
use Rattle.std.proofs.Common.{◌≡◌, ◌+◌, ◌++◌, ◌∙◌, ℕ, List, [], map, length, true, false, refl, sym, ap, arith, length-append}
use mathlib.Core.Bool.{true≢false}
use Rattle.std.proofs.lemmas.List.{length-map, map-append}
use Rattle.measure_laws.specs.declared.measure.MeasureForm.{MeasureForm}
use Rattle.measure_laws.specs.declared.measure.MeasureForm.TheVariants as form
use Rattle.measure_laws.specs.Extremes.{Extreme, greatest_of, least_of, merged_greatest, merged_least}
use Rattle.measure_laws.specs.ExtremeFacts.{greatest_laws, least_laws}
use Rattle.measure_laws.specs.Ids.{Ids, different, ids_of, merged_ids}
use Rattle.measure_laws.specs.IdFacts.{ids_laws}
use Rattle.measure_laws.specs.Kinds.{has_dictionary}
use Rattle.measure_laws.specs.MeasureFacts.{sum_laws}
use Rattle.measure_laws.specs.Measures.{MeasureLaws, Summed, merged_sum, summed}
use Rattle.cell_store.specs.Cells.{cell_of_items, form_of, ids_in, ids_of_items, items_of, merged_cell, numbers_of_items, without_ids}
use Rattle.cell_store.specs.declared.cell.Cell.{Cell}
use Rattle.cell_store.specs.declared.cell.Cell.TheVariants.{Count, Known, Sum, Min, Max, Distinct}
use Rattle.cell_store.specs.declared.cell.RowItem.{RowItem}

-- a measure of items, and the cells that show its values
pub record CellMeasure (f : MeasureForm) : Type 1 where
  pub Value : Type 0
  pub of : List RowItem → Value
  pub merge : Value → Value → Value
  pub cell : Value → Cell
  pub laws : MeasureLaws (λ v. items_of (cell v)) of merge
  pub cell-of : (items : List RowItem) → cell (of items) ≡ cell_of_items f items
  pub cell-merge : (a b : Value) → cell (merge a b) ≡ merged_cell (cell a) (cell b)
  pub form-cell : (v : Value) → form_of (cell v) ≡ f

-- a measure of what is taken of each item
pub through : {I M : Type 0} {count : M → ℕ} {of : List I → M} {merge : M → M → M} (take : RowItem → I) → MeasureLaws count of merge → MeasureLaws count (λ items. of (map take items)) merge
through {of = of} take laws = record {
  associative = laws.associative;
  commutative = laws.commutative;
  neutral = laws.neutral;
  joined = λ xs ys. ap of (map-append take xs ys) ∙ laws.joined (map take xs) (map take ys);
  counted = λ xs. laws.counted (map take xs) ∙ length-map xs take;
  counts_add = laws.counts_add;
}

pub count_laws : MeasureLaws {Item = RowItem} (λ (n : ℕ). n) length (λ a b. a + b)
count_laws = record {
  associative = λ a b c. omega arith;
  commutative = λ a b. omega arith;
  neutral = λ a. omega arith;
  joined = λ xs ys. length-append xs ys;
  counted = λ xs. refl;
  counts_add = λ a b. refl;
}

-- the measure that the cells of a form are
abbrev pub measure_of : (f : MeasureForm) → CellMeasure f
measure_of form.Count = record {
  Value = ℕ;
  of = length;
  merge = λ a b. a + b;
  cell = Count;
  laws = count_laws;
  cell-of = λ items. refl;
  cell-merge = λ a b. refl;
  form-cell = λ v. refl;
}
measure_of form.Known = record {
  Value = ℕ;
  of = length;
  merge = λ a b. a + b;
  cell = Known;
  laws = count_laws;
  cell-of = λ items. refl;
  cell-merge = λ a b. refl;
  form-cell = λ v. refl;
}
measure_of form.Sum = record {
  Value = Summed;
  of = λ items. summed (map (λ item. item.number) items);
  merge = merged_sum;
  cell = Sum;
  laws = through (λ item. item.number) sum_laws;
  cell-of = λ items. refl;
  cell-merge = λ a b. refl;
  form-cell = λ v. refl;
}
measure_of form.Min = record {
  Value = Extreme;
  of = λ items. least_of (map (λ item. item.number) items);
  merge = merged_least;
  cell = Min;
  laws = through (λ item. item.number) least_laws;
  cell-of = λ items. refl;
  cell-merge = λ a b. refl;
  form-cell = λ v. refl;
}
measure_of form.Max = record {
  Value = Extreme;
  of = λ items. greatest_of (map (λ item. item.number) items);
  merge = merged_greatest;
  cell = Max;
  laws = through (λ item. item.number) greatest_laws;
  cell-of = λ items. refl;
  cell-merge = λ a b. refl;
  form-cell = λ v. refl;
}
measure_of form.Distinct = record {
  Value = Ids;
  of = λ items. ids_of (map (λ item. item.id) items);
  merge = merged_ids;
  cell = Distinct;
  laws = through (λ item. item.id) ids_laws;
  cell-of = λ items. refl;
  cell-merge = λ a b. refl;
  form-cell = λ v. refl;
}

-- each cell shows a value of its form
pub value_of_cell : (c : Cell) → (v : (measure_of (form_of c)).Value) × ((measure_of (form_of c)).cell v ≡ c)
value_of_cell (Count v) = (v, refl)
value_of_cell (Known v) = (v, refl)
value_of_cell (Sum v) = (v, refl)
value_of_cell (Min v) = (v, refl)
value_of_cell (Max v) = (v, refl)
value_of_cell (Distinct v) = (v, refl)

-- ---- what follows for the cells of items, with no case of forms

module _ (f : MeasureForm) where
  pub form-of : (items : List RowItem) → form_of (cell_of_items f items) ≡ f
  form-of items = let m = measure_of f in ap form_of (sym (m.cell-of items)) ∙ m.form-cell (m.of items)

  pub items-of : (items : List RowItem) → items_of (cell_of_items f items) ≡ length items
  items-of items = let m = measure_of f in ap items_of (sym (m.cell-of items)) ∙ m.laws.counted items

  -- the cell of two lists of items joined
  pub cell-joined : (xs ys : List RowItem) → cell_of_items f (xs ++ ys) ≡ merged_cell (cell_of_items f xs) (cell_of_items f ys)
  cell-joined xs ys =
      let m = measure_of f in
      sym (m.cell-of (xs ++ ys)) ∙ ap m.cell (m.laws.joined xs ys) ∙ m.cell-merge (m.of xs) (m.of ys) ∙ (λ i. merged_cell (m.cell-of xs i) (m.cell-of ys i))

-- ---- ids and numbers

-- but for its ids a cell is of the numbers alone
pub same_numbers : (f : MeasureForm) (xs ys : List RowItem) → numbers_of_items xs ≡ numbers_of_items ys → without_ids (cell_of_items f xs) ≡ without_ids (cell_of_items f ys)
same_numbers f xs ys e = by f (sym (length-map xs (λ (item : RowItem). item.number)) ∙ ap length e ∙ length-map ys (λ (item : RowItem). item.number))
  where
    by : (f : MeasureForm) → length xs ≡ length ys → without_ids (cell_of_items f xs) ≡ without_ids (cell_of_items f ys)
    by form.Count size = ap Count size
    by form.Known size = ap Known size
    by form.Sum size = ap (λ ns. Sum (summed ns)) e
    by form.Min size = ap (λ ns. Min (least_of ns)) e
    by form.Max size = ap (λ ns. Max (greatest_of ns)) e
    by form.Distinct size = ap (λ (n : ℕ). Distinct (record (ids_of []) { items = n })) (length-map xs (λ (item : RowItem). item.id) ∙ size ∙ sym (length-map ys (λ (item : RowItem). item.id)))

-- the ids of a cell that has a dictionary are the different ones of the items
pub ids-of : (f : MeasureForm) (items : List RowItem) → has_dictionary f ≡ true → ids_in (cell_of_items f items) ≡ different (ids_of_items items)
ids-of form.Count items e = absurd (true≢false (sym e))
ids-of form.Known items e = absurd (true≢false (sym e))
ids-of form.Sum items e = absurd (true≢false (sym e))
ids-of form.Min items e = absurd (true≢false (sym e))
ids-of form.Max items e = absurd (true≢false (sym e))
ids-of form.Distinct items e = refl

-- and without a dictionary it has none
pub no_ids-of : (f : MeasureForm) (items : List RowItem) → has_dictionary f ≡ false → ids_in (cell_of_items f items) ≡ []
no_ids-of form.Count items e = refl
no_ids-of form.Known items e = refl
no_ids-of form.Sum items e = refl
no_ids-of form.Min items e = refl
no_ids-of form.Max items e = refl
no_ids-of form.Distinct items e = absurd (true≢false e)
