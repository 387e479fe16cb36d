-- Cells of given forms as one measure: a product of measures, whose laws have no premise, and what it tells of lists of cells.
use Rattle.std.proofs.Common.{◌≡◌, ◌+◌, ◌∙◌, ℕ, zero, suc, List, [], ◌∷◌, ◌++◌, map, length, refl, sym, ap, subst, arith, length-append, zero-add}
use Rattle.std.specs.Prelude.{sum_by}
use Rattle.std.specs.List.{AllByRecursion, filter_map}
use Rattle.std.proofs.lemmas.List.{map-append}
use Rattle.std.proofs.lemmas.List.Elements.{filter_map-append}
use Rattle.std.proofs.lemmas.List.Sums.{sum_by-cons}
use Rattle.measure_laws.specs.declared.measure.MeasureForm.{MeasureForm}
use Rattle.measure_laws.specs.Measures.{MeasureLaws}
use Rattle.aggregation.specs.Groups.{merged_all}
use Rattle.cell_store.specs.Cells.{form_of, items_at}
use Rattle.cell_store.specs.declared.cell.Cell.{Cell}
use Rattle.cell_store.proofs.KindFacts.{measure_of, value_of_cell}
use Rattle.cell_gather.specs.Gathers.{RowMeasure, cells_of, forms_of}
use Rattle.cell_gather.specs.Merges.{merged_cells, no_cells}

-- ---- merging, without the items

pub record IsMonoid {M : Type 0} (none : M) (merge : M → M → M) : Type 0 where
  pub associative : (a b c : M) → merge (merge a b) c ≡ merge a (merge b c)
  pub commutative : (a b : M) → merge a b ≡ merge b a
  pub neutral : (a : M) → merge none a ≡ a

from_laws : {I M : Type 0} {count : M → ℕ} {of : List I → M} {merge : M → M → M} → MeasureLaws count of merge → IsMonoid (of []) merge
from_laws laws = record { associative = laws.associative; commutative = laws.commutative; neutral = laws.neutral }

merged_push : {M : Type 0} {none : M} {merge : M → M → M} → IsMonoid none merge → (xs : List M) (v : M) → merged_all none merge (xs ++ v ∷ []) ≡ merge (merged_all none merge xs) v
merged_push {none = none} m [] v = m.commutative v none
merged_push {none = none} {merge = merge} m (x ∷ xs) v = ap (merge x) (merged_push m xs v) ∙ sym (m.associative x (merged_all none merge xs) v)

pub merged_all-image : {M N : Type 0} (h : M → N) (none : M) (merge : M → M → M) (none' : N) (merge' : N → N → N) → h none ≡ none' → ((a b : M) → h (merge a b) ≡ merge' (h a) (h b))
    → (ms : List M) → h (merged_all none merge ms) ≡ merged_all none' merge' (map h ms)
merged_all-image h none merge none' merge' z m [] = z
merged_all-image h none merge none' merge' z m (x ∷ xs) = m x (merged_all none merge xs) ∙ ap (merge' (h x)) (merged_all-image h none merge none' merge' z m xs)

-- ---- the value of a cell of a form

abbrev pub Value : MeasureForm → Type 0
Value f = (measure_of f).Value

abbrev pub none : (f : MeasureForm) → Value f
none f = (measure_of f).of []

abbrev pub merge : (f : MeasureForm) → Value f → Value f → Value f
merge f = (measure_of f).merge

abbrev pub cell : (f : MeasureForm) → Value f → Cell
cell f = (measure_of f).cell

monoid : (f : MeasureForm) → IsMonoid (none f) (merge f)
monoid f = from_laws (measure_of f).laws

-- ---- the values of cells of given forms

abbrev pub Values : List MeasureForm → Type 0
Values [] = Unit {0}
Values (f ∷ fs) = Value f × Values fs

abbrev pub nones : (fs : List MeasureForm) → Values fs
nones [] = tt
nones (f ∷ fs) = (none f, nones fs)

abbrev pub merges : (fs : List MeasureForm) → Values fs → Values fs → Values fs
merges [] a b = tt
merges (f ∷ fs) a b = (merge f a.0 b.0, merges fs a.1 b.1)

abbrev pub shown : (fs : List MeasureForm) → Values fs → List Cell
shown [] v = []
shown (f ∷ fs) v = cell f v.0 ∷ shown fs v.1

pub monoids : (fs : List MeasureForm) → IsMonoid (nones fs) (merges fs)
monoids [] = record { associative = λ a b c. refl; commutative = λ a b. refl; neutral = λ a. refl }
monoids (f ∷ fs) =
    let m = monoid f in
    let ms = monoids fs in
    record {
      associative = λ a b c i. (m.associative a.0 b.0 c.0 i, ms.associative a.1 b.1 c.1 i);
      commutative = λ a b i. (m.commutative a.0 b.0 i, ms.commutative a.1 b.1 i);
      neutral = λ a i. (m.neutral a.0 i, ms.neutral a.1 i);
    }

pub shown-nones : (fs : List MeasureForm) → shown fs (nones fs) ≡ no_cells fs
shown-nones [] = refl
shown-nones (f ∷ fs) = let h = (measure_of f).cell-of [] in let t = shown-nones fs in λ i. h i ∷ t i

pub shown-merges : (fs : List MeasureForm) (a b : Values fs) → shown fs (merges fs a b) ≡ merged_cells (shown fs a) (shown fs b)
shown-merges [] a b = refl
shown-merges (f ∷ fs) a b = let h = (measure_of f).cell-merge a.0 b.0 in let t = shown-merges fs a.1 b.1 in λ i. h i ∷ t i

forms-shown : (fs : List MeasureForm) (v : Values fs) → map form_of (shown fs v) ≡ fs
forms-shown [] v = refl
forms-shown (f ∷ fs) v = let h = (measure_of f).form-cell v.0 in let t = forms-shown fs v.1 in λ i. h i ∷ t i

items-nones : (fs : List MeasureForm) (k : ℕ) → items_at k (shown fs (nones fs)) ≡ 0
items-nones [] k = refl
items-nones (f ∷ fs) zero = (measure_of f).laws.counted []
items-nones (f ∷ fs) (suc k) = items-nones fs k

items-merges : (fs : List MeasureForm) (k : ℕ) (a b : Values fs) → items_at k (shown fs (merges fs a b)) ≡ items_at k (shown fs a) + items_at k (shown fs b)
items-merges [] k a b = refl
items-merges (f ∷ fs) zero a b = (measure_of f).laws.counts_add a.0 b.0
items-merges (f ∷ fs) (suc k) a b = items-merges fs k a.1 b.1

merged_values : (fs : List MeasureForm) (vs : List (Values fs)) → shown fs (merged_all (nones fs) (merges fs) vs) ≡ merged_all (no_cells fs) merged_cells (map (shown fs) vs)
merged_values fs vs = merged_all-image (shown fs) (nones fs) (merges fs) (no_cells fs) merged_cells (shown-nones fs) (shown-merges fs) vs

items-merged_values : (fs : List MeasureForm) (k : ℕ) (vs : List (Values fs)) → items_at k (shown fs (merged_all (nones fs) (merges fs) vs)) ≡ sum_by (items_at k) (map (shown fs) vs)
items-merged_values fs k [] = items-nones fs k
items-merged_values fs k (v ∷ vs) =
    items-merges fs k v (merged_all (nones fs) (merges fs) vs) ∙ ap (λ n. items_at k (shown fs v) + n) (items-merged_values fs k vs)
    ∙ sym (sum_by-cons (items_at k) (shown fs v) (map (shown fs) vs))

-- ---- lists of cells of given forms

abbrev HasForms : List MeasureForm → List Cell → Type 0
HasForms fs cells = map form_of cells ≡ fs

abbrev Shows : List MeasureForm → List Cell → Type 0
Shows fs cells = (v : Values fs) × (shown fs v ≡ cells)

own_forms : (cells : List Cell) → Shows (map form_of cells) cells
own_forms [] = (tt, refl)
own_forms (c ∷ cells) = let h = value_of_cell c in let t = own_forms cells in ((h.0, t.0), λ i. h.1 i ∷ t.1 i)

lift : (fs : List MeasureForm) (cells : List Cell) → HasForms fs cells → Shows fs cells
lift fs cells e = subst (λ (gs : List MeasureForm). Shows gs cells) e (own_forms cells)

lift_all : (fs : List MeasureForm) (rows : List (List Cell)) → AllByRecursion (HasForms fs) rows → (vs : List (Values fs)) × (map (shown fs) vs ≡ rows)
lift_all fs [] h = ([], refl)
lift_all fs (r ∷ rows) h = let v = lift fs r h.0 in let vs = lift_all fs rows h.1 in (v.0 ∷ vs.0, λ i. v.1 i ∷ vs.1 i)

-- the merge of the cells of rows, in the order in which a loop meets them
pub merged_cells-push : (fs : List MeasureForm) (rows : List (List Cell)) (cells : List Cell) → AllByRecursion (λ c. map form_of c ≡ fs) rows → map form_of cells ≡ fs
    → merged_all (no_cells fs) merged_cells (rows ++ cells ∷ []) ≡ merged_cells (merged_all (no_cells fs) merged_cells rows) cells
merged_cells-push fs rows cells all one =
    let vs = lift_all fs rows all in
    let v = lift fs cells one in
    let all_merged : List (List Cell) → List Cell = λ l. merged_all (no_cells fs) merged_cells l in
    let before : shown fs (merged_all (nones fs) (merges fs) vs.0) ≡ all_merged rows = merged_values fs vs.0 ∙ ap all_merged vs.1 in
    let after : shown fs (merged_all (nones fs) (merges fs) (vs.0 ++ v.0 ∷ [])) ≡ all_merged (rows ++ cells ∷ []) =
    merged_values fs (vs.0 ++ v.0 ∷ []) ∙ ap all_merged (map-append (shown fs) vs.0 (v.0 ∷ []) ∙ (λ i. vs.1 i ++ v.1 i ∷ [])) in
    sym after ∙ ap (shown fs) (merged_push (monoids fs) vs.0 v.0) ∙ shown-merges fs (merged_all (nones fs) (merges fs) vs.0) v.0 ∙ (λ i. merged_cells (before i) (v.1 i))

-- it has the forms of the rows
pub forms-merged : (fs : List MeasureForm) (rows : List (List Cell)) → AllByRecursion (λ c. map form_of c ≡ fs) rows → map form_of (merged_all (no_cells fs) merged_cells rows) ≡ fs
forms-merged fs rows all =
    let vs = lift_all fs rows all in
    let same : shown fs (merged_all (nones fs) (merges fs) vs.0) ≡ merged_all (no_cells fs) merged_cells rows = merged_values fs vs.0 ∙ ap (λ l. merged_all (no_cells fs) merged_cells l) vs.1 in
    ap (map form_of) (sym same) ∙ forms-shown fs (merged_all (nones fs) (merges fs) vs.0)

-- each of its cells is of as many items as those of the rows together
pub items-merged : (fs : List MeasureForm) (k : ℕ) (rows : List (List Cell)) → AllByRecursion (λ c. map form_of c ≡ fs) rows → items_at k (merged_all (no_cells fs) merged_cells rows) ≡ sum_by (items_at k) rows
items-merged fs k rows all =
    let vs = lift_all fs rows all in
    let same : shown fs (merged_all (nones fs) (merges fs) vs.0) ≡ merged_all (no_cells fs) merged_cells rows = merged_values fs vs.0 ∙ ap (λ l. merged_all (no_cells fs) merged_cells l) vs.1 in
    ap (items_at k) (sym same) ∙ items-merged_values fs k vs.0 ∙ ap (sum_by (items_at k)) vs.1

-- ---- the values of rows

add_assoc : (a b c : ℕ) → (a + b) + c ≡ a + (b + c)
add_assoc a b c = omega arith

add_comm : (a b : ℕ) → a + b ≡ b + a
add_comm a b = omega arith

module _ {R : Type 0} where
  abbrev pub value_of : (m : RowMeasure R) → List R → Value m.form
  value_of m rows = (measure_of m.form).of (filter_map m.item rows)

  abbrev pub values_of : (ms : List (RowMeasure R)) → List R → Values (forms_of ms)
  values_of [] rows = tt
  values_of (m ∷ ms) rows = (value_of m rows, values_of ms rows)

  pub values-none : (ms : List (RowMeasure R)) → values_of ms [] ≡ nones (forms_of ms)
  values-none [] = refl
  values-none (m ∷ ms) = let t = values-none ms in λ i. (none m.form, t i)

  value-joined : (m : RowMeasure R) (xs ys : List R) → value_of m (xs ++ ys) ≡ merge m.form (value_of m xs) (value_of m ys)
  value-joined m xs ys =
      let kind = measure_of m.form in
      ap kind.of (filter_map-append m.item xs ys) ∙ kind.laws.joined (filter_map m.item xs) (filter_map m.item ys)

  values-joined : (ms : List (RowMeasure R)) (xs ys : List R) → values_of ms (xs ++ ys) ≡ merges (forms_of ms) (values_of ms xs) (values_of ms ys)
  values-joined [] xs ys = refl
  values-joined (m ∷ ms) xs ys = let h = value-joined m xs ys in let t = values-joined ms xs ys in λ i. (h i, t i)

  pub shown-values : (ms : List (RowMeasure R)) (rows : List R) → shown (forms_of ms) (values_of ms rows) ≡ cells_of ms rows
  shown-values [] rows = refl
  shown-values (m ∷ ms) rows = let h = (measure_of m.form).cell-of (filter_map m.item rows) in let t = shown-values ms rows in λ i. h i ∷ t i

  -- the values of rows with their number, as one measure
  abbrev pub rows_measure : (ms : List (RowMeasure R)) → List R → ℕ × Values (forms_of ms)
  rows_measure ms rows = (length rows, values_of ms rows)

  abbrev pub measure_merged : (ms : List (RowMeasure R)) → ℕ × Values (forms_of ms) → ℕ × Values (forms_of ms) → ℕ × Values (forms_of ms)
  measure_merged ms a b = (a.0 + b.0, merges (forms_of ms) a.1 b.1)

  pub row_laws : (ms : List (RowMeasure R)) → MeasureLaws (λ (c : ℕ × Values (forms_of ms)). c.0) (rows_measure ms) (measure_merged ms)
  row_laws ms =
      let m = monoids (forms_of ms) in
      record {
        associative = λ a b c i. (add_assoc a.0 b.0 c.0 i, m.associative a.1 b.1 c.1 i);
        commutative = λ a b i. (add_comm a.0 b.0 i, m.commutative a.1 b.1 i);
        neutral = λ a. let same : merges (forms_of ms) (values_of ms []) a.1 ≡ a.1 = ap (λ v. merges (forms_of ms) v a.1) (values-none ms) ∙ m.neutral a.1 in λ i. (zero-add a.0 i, same i);
        joined = λ xs ys i. (length-append xs ys i, values-joined ms xs ys i);
        counted = λ xs. refl;
        counts_add = λ a b. refl;
      }
