-- Cell tables are read exactly.
use Rattle.std.proofs.Common.{◌≡◌, ◌≤◌, ◌<◌, ◌*◌, ◌^◌, ◌++◌, ℕ, ℤ, pos, negsuc, Bool, true, false, ◌&&◌, eqb, List, [], ◌∷◌, length, Option, Some, refl, sym, ap, subst, ◌∙◌, arith, eq-eqb}
use Rattle.std.specs.Prelude.{FitsSigned, nat_abs, nat_le, nat_lt, sum_by}
use Rattle.std.specs.Cmp.{nat_cmp_total}
use Rattle.std.specs.Cmp.Lexicographic.{nat_list_cmp_total}
use Rattle.std.specs.Int.{w32, w64, w128, to_be_bytes}
use Rattle.std.specs.List.{AllByRecursion, flat_map, list_all}
use Rattle.std.specs.List.Sorted.{IsStrictlySortedBy}
use Rattle.std.specs.Ordering.{nat_cmp}
use Rattle.std.proofs.lemmas.Bool.{eqb-true, lt-ltb, ltb-true}
use Rattle.std.proofs.lemmas.Bool.Decides.{nat_tests}
use Rattle.std.proofs.lemmas.List.Concat.{flat_map-cons}
use Rattle.std.proofs.lemmas.List.Sums.{sum_by-cons}
use Rattle.agg_group.specs.declared.mask.Mask.{Mask}
use Rattle.byte_frame.specs.Exact.{Exact, IsBytes, Takes}
use Rattle.byte_frame.specs.Reading.{as_at, each_at, signed_at}
use Rattle.byte_frame.specs.Spelling.{EachFits, list_text, rises, signed_text}
use Rattle.byte_frame.proofs.Exact.{bind_some, exact_as, exact_counted, exact_each, exact_fit, exact_if, exact_list, exact_number, exact_then, some_is, wide32, wide64}
use Rattle.byte_frame.proofs.Wide.{exact_signed, wide128}
use Rattle.cell_store.specs.declared.cell.Cell.{Cell}
use Rattle.cell_store.specs.declared.cell.Cell.TheVariants.{Count, Known, Sum, Min, Max, Distinct}
use Rattle.cell_store.specs.Cells.{CellRows}
use Rattle.measure_laws.specs.declared.measure.MeasureForm.{MeasureForm}
use Rattle.measure_laws.specs.declared.measure.MeasureForm.TheVariants as measure
use Rattle.measure_laws.specs.Extremes.{Extreme}
use Rattle.measure_laws.specs.IdFacts.{different-rising}
use Rattle.measure_laws.specs.Measures.{Summed, most_of_item}
use Rattle.cube_fields.specs.Cells.{FitsCell, FitsCells, FitsForm, FitsId, FitsIds, FitsRow, FitsTable, FitsTables, are_ordered, cell_text, count_in, id_text, measures_of, row_text, sizes_in, table_text, tables_text, value_text}
use Rattle.cube_fields.specs.Orders.{before}
use Rattle.cube_fields.specs.Reading.{cell_at, cells_at, count_at, counted_cells_at, counts_fit, distinct_of, form_at, greatest_of, id_at, ids_at, is_some_list, key_before, least_of, row_at, rows_at, set_of, sum_at, sum_of, table_at, table_from, tables_at}
use Rattle.cube_fields.specs.declared.forms.CellField.{CellField}
use Rattle.cube_fields.specs.declared.forms.CellTableForm.{CellTableForm}
use Rattle.cube_fields.proofs.CellFacts.{set_is}
use Rattle.cube_fields.proofs.Rises.{keys_rising, keys_sorted, rising, sorted}
use Rattle.cube_fields.proofs.TableFacts.{counts_again, counts_sum, rows_of}

-- the same of another way to write what fits
pub exact_spelled : {A : Type 0} (s t : A → List ℕ) (F : A → Type 0) (r : List ℕ → Option (A × List ℕ)) → ((x : A) → F x → s x ≡ t x) → Exact s F r → Exact t F r
exact_spelled s t F r same read = record {
  takes = λ bytes z fits e. let l = read.takes bytes z fits e in (subst (λ (w : List ℕ). Takes bytes w z.1) (same z.0 l.1) l.0, l.1);
  again = λ x rest h. subst (λ (w : List ℕ). r (w ++ rest) ≡ Some (x, rest)) (same x h) (read.again x rest h);
}

-- ---- numbers

pub exact_id : (size : ℕ) → Exact id_text (FitsId size) (id_at size)
exact_id size = exact_fit id_text (λ (id : ℕ). (id < 2 ^ 32) × (nat_lt id size ≡ true)) (FitsId size) (id_at size)
    (λ id h. (ltb-true id size h.1, h.0)) (λ id h. (h.1, lt-ltb id size h.0))
    (exact_if (λ id. nat_lt id size) _ (λ (id : ℕ). id < 2 ^ 32) _ (exact_number w32 (2 ^ 32) wide32))

-- numbers that rise, at least one and at most so many
abbrev FitsList : ℕ → ℕ → List ℕ → Type 0
FitsList n size ids = ((length ids ≤ n) × AllByRecursion (FitsId size) ids) × ((0 < length ids) × IsStrictlySortedBy nat_cmp ids)

exact_ids : (n size : ℕ) → n < 2 ^ 32 → Exact (list_text id_text) (FitsList n size) (ids_at n size)
exact_ids n size small = exact_fit (list_text id_text) (λ (ids : List ℕ). (((length ids ≤ n) × AllByRecursion (FitsId size) ids) × (rises (before nat_cmp) ids ≡ true)) × (is_some_list ids ≡ true)) (FitsList n size) (ids_at n size)
    (λ ids h. (h.0.0, (ltb-true 0 (length ids) h.1, sorted nat_cmp_total ids h.0.1)))
    (λ ids h. ((h.0, rising nat_cmp_total ids h.1.1), lt-ltb 0 (length ids) h.1.0))
    (exact_if is_some_list _ _ _ (exact_if (rises (before nat_cmp)) _ _ _ (exact_list n id_text (FitsId size) (id_at size) small (exact_id size))))

at_most : (a b : ℕ) → nat_le a b ≡ true → a ≤ b
at_most a b h = grind (arith, nat_tests)

at_most_again : (a b : ℕ) → a ≤ b → nat_le a b ≡ true
at_most_again a b h = grind (arith, nat_tests)

sum_fits : (n : ℕ) (z : ℤ) → n < 2 ^ 32 → nat_abs z ≤ n * most_of_item → FitsSigned w128 z
sum_fits n (pos k) small h = record { sfits = omega (arith, small, h) }
sum_fits n (negsuc k) small h = record { sfits = omega (arith, small, h) }

exact_sum : (n : ℕ) → n < 2 ^ 32 → Exact (signed_text w128) (λ (z : ℤ). nat_abs z ≤ n * most_of_item) (sum_at n)
exact_sum n small = exact_fit (signed_text w128) (λ (z : ℤ). FitsSigned w128 z × (nat_le (nat_abs z) (n * most_of_item) ≡ true)) (λ (z : ℤ). nat_abs z ≤ n * most_of_item) (sum_at n)
    (λ z h. at_most _ _ h.1) (λ z h. (sum_fits n z small h, at_most_again _ _ h))
    (exact_if (λ (z : ℤ). nat_le (nat_abs z) (n * most_of_item)) _ _ _ (exact_signed w128 wide128))

-- ---- one cell

one_take : {A : Type 0} (inj : A → Cell) (n size : ℕ) (f : MeasureForm) (s : A → List ℕ) (F : A → Type 0) (r : List ℕ → Option (A × List ℕ)) → Exact s F r
    → ((x : A) → F x → FitsForm n size f (inj x)) → ((x : A) → F x → s x ≡ cell_text (inj x)) → (bytes : List ℕ) (z : Cell × List ℕ) → IsBytes bytes → as_at inj r bytes ≡ Some z → Takes bytes (cell_text z.0) z.1 × FitsForm n size f z.0
one_take inj n size f s F r read fit spelled bytes z fits e =
    let a = bind_some (r bytes) (λ x. Some (inj x.0, x.1)) z e in
    let l = read.takes bytes a.0 fits a.1 in
    let made : Cell × List ℕ = (inj a.0.0, a.0.1) in
    subst (λ (y : Cell × List ℕ). Takes bytes (cell_text y.0) y.1 × FitsForm n size f y.0) (some_is made z a.2)
    (subst (λ (w : List ℕ). Takes bytes w a.0.1) (spelled a.0.0 l.1) l.0, fit a.0.0 l.1)

-- the set of a list that rises has its numbers
set_fits : (n size : ℕ) (ids : List ℕ) → FitsList n size ids → FitsIds n size (set_of n ids)
set_fits n size ids h = subst (λ (xs : List ℕ). (n ≡ n) × ((0 < length xs) × ((length xs ≤ n) × AllByRecursion (FitsId size) xs))) (sym (different-rising ids h.1.1)) (refl, (h.1.0, (h.0.0, h.0.1)))

form_takes : (n size : ℕ) → n < 2 ^ 32 → (f : MeasureForm) (bytes : List ℕ) (z : Cell × List ℕ) → IsBytes bytes → form_at n size f bytes ≡ Some z → Takes bytes (cell_text z.0) z.1 × FitsForm n size f z.0
form_takes n size small measure.Count bytes z fits e = absurd cc
form_takes n size small measure.Known bytes z fits e =
    let made : Cell × List ℕ = (Known n, bytes) in
    subst (λ (y : Cell × List ℕ). Takes bytes (cell_text y.0) y.1 × FitsForm n size measure.Known y.0) (some_is made z e) (record { parts = refl; rest_fits = fits }, refl)
form_takes n size small measure.Sum bytes z fits e = one_take (sum_of n) n size measure.Sum _ _ (sum_at n) (exact_sum n small) (λ x h. (refl, h)) (λ x h. refl) bytes z fits e
form_takes n size small measure.Min bytes z fits e = one_take (least_of n) n size measure.Min _ _ (signed_at w64) (exact_signed w64 wide64) (λ x h. (refl, (x, (refl, h)))) (λ x h. refl) bytes z fits e
form_takes n size small measure.Max bytes z fits e = one_take (greatest_of n) n size measure.Max _ _ (signed_at w64) (exact_signed w64 wide64) (λ x h. (refl, (x, (refl, h)))) (λ x h. refl) bytes z fits e
form_takes n size small measure.Distinct bytes z fits e =
    one_take (distinct_of n) n size measure.Distinct (list_text id_text) (FitsList n size) (ids_at n size) (exact_ids n size small) (λ x h. set_fits n size x h) (λ x h. ap (list_text id_text) (sym (different-rising x h.1.1))) bytes z fits e

sum_again : (n : ℕ) (s : Summed) → s.items ≡ n → sum_of n s.total ≡ Sum s
sum_again n s e = λ i. Sum (record { items = sym e i; total = s.total })

least_again : (n : ℕ) (m : Extreme) (v : ℤ) → m.items ≡ n → m.value ≡ Some v → least_of n v ≡ Min m
least_again n m v e f = λ i. Min (record { items = sym e i; value = sym f i })

greatest_again : (n : ℕ) (m : Extreme) (v : ℤ) → m.items ≡ n → m.value ≡ Some v → greatest_of n v ≡ Max m
greatest_again n m v e f = λ i. Max (record { items = sym e i; value = sym f i })

-- what is read of a cell's text, where its inner value is read again
back_again : {A : Type 0} (inj : A → Cell) (s : A → List ℕ) (F : A → Type 0) (r : List ℕ → Option (A × List ℕ)) → Exact s F r → (x : A) (c : Cell) (rest : List ℕ) → F x → s x ≡ cell_text c → inj x ≡ c → as_at inj r (cell_text c ++ rest) ≡ Some (c, rest)
back_again inj s F r read x c rest h spelled is =
    let one : as_at inj r (s x ++ rest) ≡ Some (inj x, rest) = rw (read.again x rest h) refl in
    subst (λ (w : List ℕ). as_at inj r (w ++ rest) ≡ Some (c, rest)) spelled (one ∙ ap (λ (d : Cell). Some (d, rest)) is)

form_again : (n size : ℕ) → n < 2 ^ 32 → (f : MeasureForm) (c : Cell) (rest : List ℕ) → FitsForm n size f c → form_at n size f (cell_text c ++ rest) ≡ Some (c, rest)
form_again n size small measure.Known (Known k) rest h = ap (λ (m : ℕ). Some (Known m, rest)) (sym h)
form_again n size small measure.Sum (Sum s) rest h = back_again (sum_of n) _ _ (sum_at n) (exact_sum n small) s.total (Sum s) rest h.1 refl (sum_again n s h.0)
form_again n size small measure.Min (Min m) rest h = back_again (least_of n) _ _ (signed_at w64) (exact_signed w64 wide64) h.1.0 (Min m) rest h.1.1.1 (sym (ap value_text h.1.1.0)) (least_again n m h.1.0 h.0 h.1.1.0)
form_again n size small measure.Max (Max m) rest h = back_again (greatest_of n) _ _ (signed_at w64) (exact_signed w64 wide64) h.1.0 (Max m) rest h.1.1.1 (sym (ap value_text h.1.1.0)) (greatest_again n m h.1.0 h.0 h.1.1.0)
form_again n size small measure.Distinct (Distinct d) rest h =
    back_again (distinct_of n) (list_text id_text) (FitsList n size) (ids_at n size) (exact_ids n size small) d.ids (Distinct d) rest ((h.1.1.0, h.1.1.1), (h.1.0, d.rising)) refl (ap Distinct (sym (set_is d n d.ids d.rising h.0 refl)))
form_again n size small f c rest h = absurd h

exact_cell : (n : ℕ) → n < 2 ^ 32 → (field : CellField) → Exact cell_text (FitsCell n field) (cell_at n field)
unfolding cell_at
exact_cell n small field = record { takes = form_takes n field.size small field.form; again = form_again n field.size small field.form }

-- ---- the cells of a row

both : (a b : Bool) → (a && b) ≡ true → (a ≡ true) × (b ≡ true)
both true b h = (refl, h)
both false b h = absurd cc

abbrev IsCount : ℕ → ℕ → Type 0
IsCount most n = (1 ≤ n) × (n ≤ most)

exact_count : (most : ℕ) → most < 2 ^ 32 → Exact (to_be_bytes w64) (IsCount most) (count_at most)
exact_count most small = exact_fit (to_be_bytes w64) (λ (n : ℕ). (n < 2 ^ 64) × ((nat_le 1 n && nat_le n most) ≡ true)) (IsCount most) (count_at most)
    (λ n h. let t = both (nat_le 1 n) (nat_le n most) h.1 in (at_most 1 n t.0, at_most n most t.1))
    (λ n h. (omega (arith, h.1, small), rw (at_most_again 1 n h.0, at_most_again n most h.1) refl))
    (exact_if (λ n. nat_le 1 n && nat_le n most) _ (λ (n : ℕ). n < 2 ^ 64) _ (exact_number w64 (2 ^ 64) wide64))

-- the cells behind the first one
abbrev behind : List Cell → List Cell
behind [] = []
behind (c ∷ cells) = cells

-- a count of n, and behind it a cell of n items for each form
abbrev CountedBy : ℕ → List CellField → List Cell → Type 0
CountedBy n forms (Count m ∷ cells) = (m ≡ n) × EachFits (FitsCell n) forms cells
CountedBy n forms cells = ⊥

counted_back : (n : ℕ) (forms : List CellField) (cells : List Cell) → CountedBy n forms cells → ((let x : List Cell = Count n ∷ behind cells in x) ≡ cells) × EachFits (FitsCell n) forms (behind cells)
counted_back n forms [] h = absurd h
counted_back n forms (Count m ∷ cells) h = (ap (λ (k : ℕ). let x : List Cell = Count k ∷ cells in x) (sym h.0), h.1)
counted_back n forms (other ∷ cells) h = absurd h

exact_counted_cells : (n : ℕ) (forms : List CellField) → n < 2 ^ 32 → Exact (λ (cells : List Cell). flat_map cell_text (behind cells)) (CountedBy n forms) (counted_cells_at n forms)
unfolding counted_cells_at
exact_counted_cells n forms small = exact_as (λ (cells : List Cell). Count n ∷ cells) behind (flat_map cell_text) (EachFits (FitsCell n) forms) (CountedBy n forms) (each_at (cell_at n) forms)
    (λ cells h. (refl, (refl, h)))
    (λ cells h. counted_back n forms cells h)
    (exact_each cell_text (FitsCell n) (cell_at n) (exact_cell n small) forms)

cells_one : (most n : ℕ) (forms : List CellField) (cells : List Cell) → IsCount most n → CountedBy n forms cells → ((let x : ℕ × List Cell = (count_in cells, cells) in x) ≡ (n, cells)) × FitsCells most forms cells
cells_one most n forms [] c h = absurd h
cells_one most n forms (Count m ∷ cells) c h = (ap (λ (k : ℕ). let x : ℕ × List Cell = (k, Count m ∷ cells) in x) h.0, subst (λ (k : ℕ). IsCount most k × EachFits (FitsCell k) forms cells) (sym h.0) (c, h.1))
cells_one most n forms (other ∷ cells) c h = absurd h

cells_two : (most : ℕ) (forms : List CellField) (cells : List Cell) → FitsCells most forms cells → IsCount most (count_in cells) × CountedBy (count_in cells) forms cells
cells_two most forms [] h = absurd h
cells_two most forms (Count m ∷ cells) h = (h.0, (refl, h.1))
cells_two most forms (other ∷ cells) h = absurd h

cells_spelled : (most : ℕ) (forms : List CellField) (cells : List Cell) → FitsCells most forms cells → to_be_bytes w64 (count_in cells) ++ flat_map cell_text (behind cells) ≡ flat_map cell_text cells
cells_spelled most forms [] h = absurd h
cells_spelled most forms (Count m ∷ cells) h = sym (flat_map-cons cell_text (Count m) cells)
cells_spelled most forms (other ∷ cells) h = absurd h

exact_cells : (most : ℕ) (forms : List CellField) → most < 2 ^ 32 → Exact (flat_map cell_text) (FitsCells most forms) (cells_at most forms)
exact_cells most forms small =
    exact_spelled (λ (cells : List Cell). to_be_bytes w64 (count_in cells) ++ flat_map cell_text (behind cells)) (flat_map cell_text) (FitsCells most forms) (cells_at most forms) (cells_spelled most forms)
    (exact_as (λ (p : ℕ × List Cell). p.1) (λ (cells : List Cell). (count_in cells, cells)) _ _ (FitsCells most forms) _
    (λ x h. cells_one most x.0 forms x.1 h.0 h.1)
    (λ cells h. (refl, cells_two most forms cells h))
    (exact_then _ _ _ (λ n (cells : List Cell). flat_map cell_text (behind cells)) _ _ (exact_count most small) (λ n h. exact_counted_cells n forms (omega (arith, h.1, small)))))

-- ---- rows and tables

abbrev Row : Type 0
Row = List ℕ × List Cell

exact_row : (sizes : List ℕ) (f : CellTableForm) → f.most < 2 ^ 32 → Exact row_text (FitsRow sizes f) (row_at sizes f)
unfolding row_at
exact_row sizes f small = exact_fit row_text (λ (row : Row). (EachFits FitsId sizes row.0 × FitsCells f.most f.cells row.1) × (list_all (are_ordered row.1) f.extremes ≡ true)) (FitsRow sizes f) _
    (λ row h. record { key = h.0.0; cells = h.0.1; ordered = h.1 })
    (λ row h. ((h.key, h.cells), h.ordered))
    (exact_if (λ (row : Row). list_all (are_ordered row.1) f.extremes) _ _ _
    (exact_then _ _ _ (λ key (cells : List Cell). flat_map cell_text cells) _ _ (exact_each id_text FitsId id_at exact_id sizes) (λ key h. exact_cells f.most f.cells small)))

some_count : (most : ℕ) (forms : List CellField) (cells : List Cell) → FitsCells most forms cells → 1 ≤ count_in cells
some_count most forms cells h = (cells_two most forms cells h).0.0

-- rows of at least one row each are no more than what they count
few_rows : (sizes : List ℕ) (f : CellTableForm) (rows : List Row) → AllByRecursion (FitsRow sizes f) rows → length rows ≤ sum_by rows_of rows
few_rows sizes f [] h = omega arith
few_rows sizes f (row ∷ rows) h = omega (arith, some_count f.most f.cells row.1 h.0.cells, few_rows sizes f rows h.1, sum_by-cons rows_of row rows)

abbrev FitsRows : List ℕ → CellTableForm → List Row → Type 0
FitsRows sizes f rows = (((length rows ≤ f.most) × AllByRecursion (FitsRow sizes f) rows) × (rises key_before rows ≡ true)) × (counts_fit f.most rows ≡ true)

exact_rows : (sizes : List ℕ) (f : CellTableForm) → f.most < 2 ^ 32 → Exact (list_text row_text) (FitsRows sizes f) (rows_at sizes f)
exact_rows sizes f small = exact_if (counts_fit f.most) _ _ _ (exact_if (rises key_before) _ _ _ (exact_list f.most row_text (FitsRow sizes f) (row_at sizes f) small (exact_row sizes f small)))

table_one : (f : CellTableForm) (m : Mask) (x : ℕ × List Row) → (x.0 < 2 ^ 64) × (eqb x.0 m.0 ≡ true) → FitsRows (sizes_in f.sizes m) f x.1 → FitsTable f m (table_from f x)
table_one f m x n h = record {
  mask = let same = eqb-true _ _ n.1 in λ i. record { 0 = same i };
  measures = refl;
  rows = h.0.0.1;
  rising = keys_sorted nat_list_cmp_total x.1 h.0.1;
  few = counts_sum f.most x.1 h.1;
}

same_table : (f : CellTableForm) (t : CellRows) → t.forms ≡ measures_of f → table_from f (t.mask.0, t.rows) ≡ t
same_table f t e = λ i. record { mask = t.mask; forms = sym e i; rows = t.rows }

table_two : (f : CellTableForm) (m : Mask) (t : CellRows) → m.0 < 2 ^ 64 → FitsTable f m t → ((t.mask.0 < 2 ^ 64) × (eqb t.mask.0 m.0 ≡ true)) × FitsRows (sizes_in f.sizes m) f t.rows
table_two f m t small h =
    let same : t.mask.0 ≡ m.0 = ap (λ (k : Mask). k.0) h.mask in
    ((omega (arith, same, small), eq-eqb _ _ same), (((omega (arith, few_rows (sizes_in f.sizes m) f t.rows h.rows, h.few), h.rows), keys_rising nat_list_cmp_total t.rows h.rising), counts_again f.most t.rows h.few))

pub exact_table : (f : CellTableForm) (m : Mask) → f.most < 2 ^ 32 → m.0 < 2 ^ 64 → Exact table_text (FitsTable f m) (table_at f m)
unfolding table_at
exact_table f m small wide = exact_as (table_from f) (λ (t : CellRows). (t.mask.0, t.rows)) _ _ (FitsTable f m) _
    (λ x h. (refl, table_one f m x h.0 h.1))
    (λ t h. (same_table f t h.measures, table_two f m t wide h))
    (exact_then _ _ _ (λ n (rows : List Row). list_text row_text rows) _ _ (exact_if (λ n. eqb n m.0) _ (λ (n : ℕ). n < 2 ^ 64) _ (exact_number w64 (2 ^ 64) wide64)) (λ n h. exact_rows (sizes_in f.sizes m) f small))

each_table : (f : CellTableForm) (masks : List Mask) → f.most < 2 ^ 32 → AllByRecursion (λ (m : Mask). m.0 < 2 ^ 64) masks → AllByRecursion (λ (m : Mask). Exact table_text (FitsTable f m) (table_at f m)) masks
each_table f [] small wide = tt
each_table f (m ∷ masks) small wide = (exact_table f m small wide.0, each_table f masks small wide.1)

pub exact_tables : (f : CellTableForm) (masks : List Mask) → f.most < 2 ^ 32 → length masks < 2 ^ 32 → AllByRecursion (λ (m : Mask). m.0 < 2 ^ 64) masks → Exact tables_text (FitsTables f masks) (tables_at f masks)
exact_tables f masks small short wide = exact_counted table_text (FitsTable f) (table_at f) masks (each_table f masks small wide) short
