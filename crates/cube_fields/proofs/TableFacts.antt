-- What is read as rows is a cell table.
use Rattle.std.proofs.Common.{◌≡◌, ◌≤◌, ◌<◌, ◌+◌, ◌-◌, ◌^◌, ℕ, zero, suc, Bool, true, false, cond, List, [], ◌∷◌, ◌++◌, length, take, Some, refl, sym, ap, subst, ◌∙◌, arith}
use Rattle.std.specs.Prelude.{filter, map, nat_le, slice_index_or, sum_by}
use Rattle.std.specs.List.{AllByRecursion, list_all}
use Rattle.std.specs.Cmp.Lexicographic.{nat_list_cmp_total}
use Rattle.std.proofs.lemmas.Bool.Decides.{nat_tests}
use Rattle.std.proofs.lemmas.List.{append-nil, length-map, map-id, take_all}
use Rattle.std.proofs.lemmas.List.FromFn.{map-range_with_len_more}
use Rattle.std.proofs.lemmas.List.Elements.{All-from_recursion, filter-append}
use Rattle.std.proofs.lemmas.List.Sums.{length-filter, sum_by-cons}
use Rattle.agg_group.specs.declared.mask.Mask.{Mask}
use Rattle.agg_group.specs.Mask.{count_of, has}
use Rattle.agg_group.specs.Sets.{dimensions}
use Rattle.byte_frame.specs.Reading.{each_at, then_at}
use Rattle.byte_frame.proofs.Exact.{some_is}
use Rattle.byte_frame.specs.Spelling.{EachFits, rises}
use Rattle.cell_store.specs.declared.cell.Cell.{Cell}
use Rattle.cell_store.specs.declared.cell.Cell.TheVariants.{Count, Known}
use Rattle.cell_store.specs.Cells.{IsCellTable, form_of, items_at, items_of}
use Rattle.measure_laws.specs.declared.measure.MeasureForm.{MeasureForm}
use Rattle.measure_laws.specs.declared.measure.MeasureForm.TheVariants as measure
use Rattle.cube_fields.specs.Cells.{are_ordered, count_in, dims_in, measures_of, sizes_in}
use Rattle.cube_fields.specs.Reading.{cell_at, cells_at, count_at, counted_cells_at, counts_fit, form_at, id_at, key_before, row_at, rows_at}
use Rattle.cube_fields.specs.declared.forms.CellField.{CellField}
use Rattle.cube_fields.specs.declared.forms.CellTableForm.{CellTableForm}
use Rattle.cube_fields.proofs.Given.{Gets, gets_any, gets_as, gets_each, gets_if, gets_list, gets_then}
use Rattle.cube_fields.proofs.Rises.{keys_sorted}

-- ---- cells of a row

abbrev Row : Type 0
Row = List ℕ × List Cell

-- of the field's form of measure, and of so many items
abbrev OfField : ℕ → CellField → Cell → Type 0
OfField n field c = (form_of c ≡ field.form) × (items_of c ≡ n)

abbrev OfForm : ℕ → MeasureForm → Cell → Type 0
OfForm n f c = (form_of c ≡ f) × (items_of c ≡ n)

gets_form : (n size : ℕ) (f : MeasureForm) → Gets (OfForm n f) (form_at n size f)
gets_form n size measure.Count = λ bytes z e. absurd cc
gets_form n size measure.Known = λ bytes z e.
    let made : Cell × List ℕ = (Known n, bytes) in
    subst (λ (y : Cell × List ℕ). OfForm n measure.Known y.0) (some_is made z e) (refl, refl)
gets_form n size measure.Sum = gets_as (λ _. Unit {0}) (OfForm n measure.Sum) _ _ (λ x h. (refl, refl)) (gets_any _)
gets_form n size measure.Min = gets_as (λ _. Unit {0}) (OfForm n measure.Min) _ _ (λ x h. (refl, refl)) (gets_any _)
gets_form n size measure.Max = gets_as (λ _. Unit {0}) (OfForm n measure.Max) _ _ (λ x h. (refl, refl)) (gets_any _)
gets_form n size measure.Distinct = gets_as (λ _. Unit {0}) (OfForm n measure.Distinct) _ _ (λ x h. (refl, refl)) (gets_any _)

gets_cell : (n : ℕ) (field : CellField) → Gets (OfField n field) (cell_at n field)
unfolding cell_at
gets_cell n field = gets_form n field.size field.form

-- a count, and behind it a cell for each field, of so many items
abbrev AreOfFields : List CellField → List Cell → Type 0
AreOfFields fields (Count n ∷ cells) = EachFits (OfField n) fields cells
AreOfFields fields cells = ⊥

gets_counted : (n : ℕ) (forms : List CellField) → Gets (AreOfFields forms) (counted_cells_at n forms)
unfolding counted_cells_at
gets_counted n forms = gets_as (λ cells. EachFits (OfField n) forms cells) (AreOfFields forms) (λ cells. Count n ∷ cells) _ (λ cells h. h) (gets_each (OfField n) (cell_at n) (gets_cell n) forms)

gets_cells : (most : ℕ) (forms : List CellField) → Gets (AreOfFields forms) (cells_at most forms)
gets_cells most forms =
    gets_as (λ (p : ℕ × List Cell). Unit {0} × AreOfFields forms p.1) (AreOfFields forms) (λ p. p.1) _ (λ p h. h.1)
    (gets_then (λ (n : ℕ). Unit {0}) (λ n cells. AreOfFields forms cells) (count_at most) (λ n. counted_cells_at n forms) (gets_any (count_at most)) (λ n h. gets_counted n forms))

-- ---- rows

abbrev IsRow : List ℕ → CellTableForm → Row → Type 0
IsRow sizes f row = EachFits (λ (size id : ℕ). Unit {0}) sizes row.0 × AreOfFields f.cells row.1

gets_row : (sizes : List ℕ) (f : CellTableForm) → Gets (IsRow sizes f) (row_at sizes f)
unfolding row_at
gets_row sizes f bytes z e =
    (gets_if (IsRow sizes f) (λ row. list_all (are_ordered row.1) f.extremes) (then_at (each_at id_at sizes) (λ _. cells_at f.most f.cells))
    (gets_then (λ key. EachFits (λ (size id : ℕ). Unit {0}) sizes key) (λ key cells. AreOfFields f.cells cells) (each_at id_at sizes) (λ _. cells_at f.most f.cells)
    (gets_each (λ (size id : ℕ). Unit {0}) id_at (λ size. gets_any (id_at size)) sizes) (λ key h. gets_cells f.most f.cells)) bytes z e).0

each_length : {C A : Type 0} (F : C → A → Type 0) (cs : List C) (xs : List A) → EachFits F cs xs → length xs ≡ length cs
each_length F [] [] h = refl
each_length F [] (x ∷ xs) h = absurd h
each_length F (c ∷ cs) [] h = absurd h
each_length F (c ∷ cs) (x ∷ xs) h = ap suc (each_length F cs xs h.1)

-- ---- what a table keeps

width_is : (f : CellTableForm) (mask : Mask) → length (sizes_in f.sizes mask) ≡ count_of mask
unfolding count_of dims_in sizes_in
width_is f mask = length-map (dims_in mask) (λ d. slice_index_or f.sizes d 0) ∙ length-filter (has mask) (dimensions 64)

widths : (f : CellTableForm) (mask : Mask) (rows : List Row) → AllByRecursion (IsRow (sizes_in f.sizes mask) f) rows → AllByRecursion (λ (row : Row). length row.0 ≡ count_of mask) rows
widths f mask [] h = tt
widths f mask (row ∷ rows) h = (each_length (λ (size id : ℕ). Unit {0}) (sizes_in f.sizes mask) row.0 h.0.0 ∙ width_is f mask, widths f mask rows h.1)

forms_behind : (n : ℕ) (forms : List CellField) (cells : List Cell) → EachFits (OfField n) forms cells → map form_of cells ≡ map (λ (field : CellField). field.form) forms
forms_behind n [] [] h = refl
forms_behind n [] (c ∷ cells) h = absurd h
forms_behind n (f ∷ forms) [] h = absurd h
forms_behind n (f ∷ forms) (c ∷ cells) h = λ i. h.0.0 i ∷ forms_behind n forms cells h.1 i

forms_are : (f : CellTableForm) (cells : List Cell) → AreOfFields f.cells cells → map form_of cells ≡ measures_of f
forms_are f [] h = absurd h
forms_are f (Count n ∷ cells) h = ap (λ (ms : List MeasureForm). measure.Count ∷ ms) (forms_behind n f.cells cells h)
forms_are f (other ∷ cells) h = absurd h

all_forms : (sizes : List ℕ) (f : CellTableForm) (rows : List Row) → AllByRecursion (IsRow sizes f) rows → AllByRecursion (λ (row : Row). map form_of row.1 ≡ measures_of f) rows
all_forms sizes f [] h = tt
all_forms sizes f (row ∷ rows) h = (forms_are f row.1 h.0.1, all_forms sizes f rows h.1)

items_behind : (n k : ℕ) (forms : List CellField) (cells : List Cell) → EachFits (OfField n) forms cells → items_at k cells ≤ n
items_behind n k [] [] h = omega arith
items_behind n k [] (c ∷ cells) h = absurd h
items_behind n k (f ∷ forms) [] h = absurd h
items_behind n zero (f ∷ forms) (c ∷ cells) h = omega (arith, h.0.1)
items_behind n (suc k) (f ∷ forms) (c ∷ cells) h = items_behind n k forms cells h.1

items_few : (k : ℕ) (forms : List CellField) (cells : List Cell) → AreOfFields forms cells → items_at k cells ≤ count_in cells
items_few k forms [] h = absurd h
items_few zero forms (Count n ∷ cells) h = omega arith
items_few (suc k) forms (Count n ∷ cells) h = items_behind n k forms cells h
items_few k forms (other ∷ cells) h = absurd h

abbrev pub rows_of : Row → ℕ
rows_of row = count_in row.1

sums : (k : ℕ) (sizes : List ℕ) (f : CellTableForm) (rows : List Row) → AllByRecursion (IsRow sizes f) rows → sum_by (λ (row : Row). items_at k row.1) rows ≤ sum_by rows_of rows
sums k sizes f [] h = omega arith
sums k sizes f (row ∷ rows) h =
    omega (arith, items_few k f.cells row.1 h.0.1, sums k sizes f rows h.1, sum_by-cons (λ (r : Row). items_at k r.1) row rows, sum_by-cons rows_of row rows)

-- counts that fit add up to at most so many
at_most : (a b : ℕ) → nat_le a b ≡ true → a ≤ b
at_most a b h = grind (arith, nat_tests)

at_most_again : (a b : ℕ) → a ≤ b → nat_le a b ≡ true
at_most_again a b h = grind (arith, nat_tests)

pub counts_sum : (most : ℕ) (rows : List Row) → counts_fit most rows ≡ true → sum_by rows_of rows ≤ most
counts_sum most [] e = omega arith
counts_sum most (row ∷ rows) e = by (nat_le (rows_of row) most) refl e (counts_sum (most - rows_of row) rows) where
  by : (b : Bool) → nat_le (rows_of row) most ≡ b → cond b (counts_fit (most - rows_of row) rows) false ≡ true
      → (counts_fit (most - rows_of row) rows ≡ true → sum_by rows_of rows ≤ most - rows_of row) → sum_by rows_of (row ∷ rows) ≤ most
  by false is e more = absurd cc
  by true is e more = omega (arith, at_most (rows_of row) most is, more e, sum_by-cons rows_of row rows)

pub counts_again : (most : ℕ) (rows : List Row) → sum_by rows_of rows ≤ most → counts_fit most rows ≡ true
counts_again most [] h = refl
counts_again most (row ∷ rows) h =
    let one = at_most_again (rows_of row) most (omega (arith, h, sum_by-cons rows_of row rows)) in
    rw one (counts_again (most - rows_of row) rows (omega (arith, h, sum_by-cons rows_of row rows)))

pub is_table : (f : CellTableForm) (mask : Mask) (sizes bytes : List ℕ) (rows : List Row) (rest : List ℕ) → f.most < 2 ^ 32 → sizes ≡ sizes_in f.sizes mask → rows_at sizes f bytes ≡ Some (rows, rest) → IsCellTable mask (measures_of f) rows
is_table f mask sizes bytes rows rest small same e =
    let h = gets_if (λ (rows : List Row). ((length rows ≤ f.most) × AllByRecursion (IsRow (sizes_in f.sizes mask) f) rows) × (rises key_before rows ≡ true)) (counts_fit f.most) _
    (gets_if (λ (rows : List Row). (length rows ≤ f.most) × AllByRecursion (IsRow (sizes_in f.sizes mask) f) rows) (rises key_before) _
    (gets_list (IsRow (sizes_in f.sizes mask) f) f.most (row_at (sizes_in f.sizes mask) f) (gets_row (sizes_in f.sizes mask) f))) bytes (rows, rest) (subst (λ (s : List ℕ). rows_at s f bytes ≡ Some (rows, rest)) same e) in
    let each = h.0.0.1 in
    record {
      widths = All-from_recursion (λ (row : Row). length row.0 ≡ count_of mask) rows (widths f mask rows each);
      cells = All-from_recursion (λ (row : Row). map form_of row.1 ≡ measures_of f) rows (all_forms (sizes_in f.sizes mask) f rows each);
      rising = keys_sorted nat_list_cmp_total rows h.0.1;
      few = λ k lt. omega (arith, sums k (sizes_in f.sizes mask) f rows each, counts_sum f.most rows h.1, small);
    }

-- the dimensions of a mask up to one more
range_more : (n : ℕ) → dimensions (n + 1) ≡ dimensions n ++ n ∷ []
range_more n =
    sym (map-id (dimensions (n + 1))) ∙ map-range_with_len_more (λ x. x) 0 n n (omega arith) ∙ ap (λ (xs : List ℕ). xs ++ n ∷ []) (map-id (dimensions n))

pub dims_more : (q : ℕ → Bool) (n : ℕ) → q n ≡ true → filter q (dimensions (n + 1)) ≡ filter q (dimensions n) ++ n ∷ []
dims_more q n h =
    ap (filter q) (range_more n) ∙ filter-append q (dimensions n) (n ∷ []) ∙ ap (λ (xs : List ℕ). filter q (dimensions n) ++ xs) (ap (λ (b : Bool). cond b (n ∷ []) []) h)

pub dims_left : (q : ℕ → Bool) (n : ℕ) → q n ≡ false → filter q (dimensions (n + 1)) ≡ filter q (dimensions n)
dims_left q n h =
    ap (filter q) (range_more n) ∙ filter-append q (dimensions n) (n ∷ []) ∙ ap (λ (xs : List ℕ). filter q (dimensions n) ++ xs) (ap (λ (b : Bool). cond b (n ∷ []) []) h)
    ∙ append-nil (filter q (dimensions n))

upto : (q : ℕ → Bool) (n m : ℕ) (xs : List ℕ) → n ≡ m → xs ≡ filter q (dimensions n) → xs ≡ filter q (dimensions m)
upto q n m xs e h = subst (λ (k : ℕ). xs ≡ filter q (dimensions k)) e h

pub dims_done : (mask : Mask) (n : ℕ) (xs : List ℕ) → n ≤ 64 → 64 ≤ n → xs ≡ filter (has mask) (dimensions n) → xs ≡ dims_in mask
unfolding dims_in
dims_done mask n xs low high h = upto (has mask) n 64 xs (omega (arith, low, high)) h

pub sizes_done : (sizes : List ℕ) (mask : Mask) (dims : List ℕ) (i : ℕ) (xs : List ℕ) → length dims ≤ i → dims ≡ dims_in mask → xs ≡ map (λ d. slice_index_or sizes d 0) (take i dims) → xs ≡ sizes_in sizes mask
unfolding sizes_in
sizes_done sizes mask dims i xs all same h = h ∙ ap (map (λ d. slice_index_or sizes d 0)) (take_all i dims all ∙ same)
