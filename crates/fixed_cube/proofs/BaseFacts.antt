-- The base cuboid of rows that fit is a list of cells that fit.
use Rattle.std.proofs.Common.{◌≡◌, ◌≤◌, ◌<◌, ◌+◌, ◌*◌, ◌^◌, ◌∷◌, ℕ, ℤ, pos, negsuc, neg_ℤ, Bool, true, false, cond, List, [], length, map, refl, sym, ap, subst, ◌∙◌, arith, rules}
use Rattle.std.specs.Int.Signed.{mag}
use Rattle.std.specs.Prelude.{◌≤ℤ◌, ◌+ℤ◌, FitsSigned}
use Rattle.std.specs.Int.{w64}
use Rattle.std.specs.List.{AllByRecursion, filter, sum_by}
use Rattle.std.specs.List.Sorted.{IsStrictlySortedBy}
use Rattle.std.specs.declared.cmp.Ordering.TheVariants.{Less}
use Rattle.std.specs.Ordering.{eq_by_cmp, is_lt}
use Rattle.std.proofs.lemmas.Int.{ints}
use Rattle.std.proofs.lemmas.List.{length-map}
use Rattle.byte_frame.specs.Spelling.{rises}
use Rattle.cube_val.specs.declared.val.Val.{Val}
use Rattle.cube_val.specs.declared.val.Val.TheVariants.{Null, Int, Text}
use Rattle.cube_val.specs.Order.{number_of, row_cmp}
use Rattle.cube_val.specs.OrderLaws.{row_cmp_total}
use Rattle.cube_val.specs.Values.{IsValue}
use Rattle.cube_val.proofs.OrderFacts.{row_cmp_exact}
use Rattle.measure_laws.specs.MeasureFacts.{sum_laws}
use Rattle.measure_laws.specs.Measures.{Summed, int_sum, most_of_item, summed}
use Rattle.aggregation.specs.Groups.{distinct, values_at}
use Rattle.aggregation.proofs.CellFacts.{count_aggregate, length-values_at}
use Rattle.aggregation.proofs.GroupFacts.{all_grouped, itself, rises-grouped}
use Rattle.plain_answer.specs.Aggregates.{cell}
use Rattle.range_list.specs.Ranges.{Interval}
use Rattle.step_fields.specs.Fits.{FitsRow, FitsRows}
use Rattle.fixed_cube.specs.Cells.{Cell, FitsCell, FitsCells, base_of, cell_below, count_of}
use Rattle.fixed_cube.specs.Columns.{fact_columns, joined_columns, key_columns, row_limit}
use Rattle.fixed_cube.specs.Rows.{HasNumber, item_of_row, joined, joined_row, key_of_row, lies_in}

-- ---- facts of each of a list

all_from : {X : Type 0} {P Q : X → Type 0} → ((x : X) → P x → Q x) → (xs : List X) → AllByRecursion P xs → AllByRecursion Q xs
all_from f [] h = tt
all_from f (x ∷ xs) h = (f x h.0, all_from f xs h.1)

all_both : {X : Type 0} {P Q R : X → Type 0} → ((x : X) → P x → Q x → R x) → (xs : List X) → AllByRecursion P xs → AllByRecursion Q xs → AllByRecursion R xs
all_both f [] h g = tt
all_both f (x ∷ xs) h g = (f x h.0 g.0, all_both f xs h.1 g.1)

-- ---- joined rows

-- a row of F that fits gives a joined row that fits
joined_row_fits : (row : List Val) → FitsRow fact_columns row → FitsRow joined_columns (joined_row row)
joined_row_fits [] h = absurd h
joined_row_fits (d ∷ []) h = absurd h.1
joined_row_fits (d ∷ a ∷ []) h = absurd h.1.1
joined_row_fits (d ∷ a ∷ b ∷ []) h = absurd h.1.1.1
joined_row_fits (d ∷ a ∷ b ∷ m ∷ []) h = (h.1.0, (h.1.1.0, (h.1.1.1.0, tt)))
joined_row_fits (d ∷ a ∷ b ∷ m ∷ x ∷ row) h = absurd h.1.1.1.1

some_joined : (range : Interval) (rows : List (List Val)) → AllByRecursion (FitsRow fact_columns) rows
    → (length (joined range rows) ≤ length rows) × AllByRecursion (FitsRow joined_columns) (joined range rows)
some_joined range [] h = (omega arith, tt)
some_joined range (row ∷ rows) h = by (lies_in range row) (some_joined range rows h.1) where
  by : (b : Bool) → (length (joined range rows) ≤ length rows) × AllByRecursion (FitsRow joined_columns) (joined range rows)
      → (length (map joined_row (cond b (row ∷ filter (lies_in range) rows) (filter (lies_in range) rows))) ≤ length (row ∷ rows))
      × AllByRecursion (FitsRow joined_columns) (map joined_row (cond b (row ∷ filter (lies_in range) rows) (filter (lies_in range) rows)))
  by true more = (omega (arith, more.0), (joined_row_fits row h.0, more.1))
  by false more = (omega (arith, more.0), more.1)

pub joined_fits : (range : Interval) (rows : List (List Val)) → FitsRows fact_columns row_limit rows → FitsRows joined_columns row_limit (joined range rows)
joined_fits range rows h = let some = some_joined range rows h.1 in (omega (arith, h.0, some.0), some.1)

number_here : (row : List Val) → FitsRow joined_columns row → HasNumber row
number_here [] h = absurd h
number_here (a ∷ []) h = absurd h.1
number_here (a ∷ b ∷ []) h = absurd h.1.1
number_here (a ∷ b ∷ Null ∷ []) h = absurd (h.1.1.0.no_null refl refl)
number_here (a ∷ b ∷ Int n ∷ []) h = tt
number_here (a ∷ b ∷ Text t ∷ []) h = absurd h.1.1.0.of_type
number_here (a ∷ b ∷ m ∷ x ∷ row) h = absurd h.1.1.1

pub numbers_here : (rows : List (List Val)) → AllByRecursion (FitsRow joined_columns) rows → AllByRecursion HasNumber rows
numbers_here = all_from number_here

-- ---- what a joined row gives its cell

key_fits : (row : List Val) → FitsRow joined_columns row → FitsRow key_columns (key_of_row row)
key_fits [] h = absurd h
key_fits (a ∷ []) h = absurd h.1
key_fits (a ∷ b ∷ []) h = absurd h.1.1
key_fits (a ∷ b ∷ m ∷ row) h = (h.0, (h.1.0, tt))

-- the number of a value of a program
number_fits : (v : Val) → IsValue v → FitsSigned w64 (number_of v)
number_fits Null h = record { sfits = omega arith }
number_fits (Int n) h = h
number_fits (Text t) h = record { sfits = omega arith }

item_fits : (row : List Val) → FitsRow joined_columns row → FitsSigned w64 (item_of_row row)
item_fits [] h = absurd h
item_fits (a ∷ []) h = absurd h.1
item_fits (a ∷ b ∷ []) h = absurd h.1.1
item_fits (a ∷ b ∷ m ∷ row) h = number_fits m h.1.1.0.is_value

-- a sum is no farther from zero than so many numbers of 64 bits can bring it
record IsBounded (n : ℕ) (total : ℤ) : Type 0 where
  low : neg_ℤ (pos (n * most_of_item)) ≤ℤ total
  high : total ≤ℤ pos (n * most_of_item)

near_zero : (n : ℕ) (z : ℤ) → mag z < n → (neg_ℤ (pos n) ≤ℤ z) × (z ≤ℤ pos n)
near_zero n (pos k) small = (omega (arith, ints, small), omega (arith, ints, small))
near_zero n (negsuc k) small = (omega (arith, ints, small), omega (arith, ints, small))

bounded_more : (n : ℕ) (item total : ℤ) → FitsSigned w64 item → IsBounded n total → IsBounded (n + 1) (item +ℤ total)
bounded_more n item total fits h =
    let near = near_zero most_of_item item (omega (arith, fits.sfits)) in
    record { low = omega (arith, ints, near.0, h.low); high = omega (arith, ints, near.1, h.high) }

values_bounded : (rows : List (List Val)) → AllByRecursion (FitsRow joined_columns) rows → (q : List Val)
    → IsBounded (length (values_at row_cmp key_of_row item_of_row rows q)) (int_sum (values_at row_cmp key_of_row item_of_row rows q))
values_bounded [] h q = record { low = omega (arith, ints); high = omega (arith, ints) }
values_bounded (row ∷ rows) h q = by (eq_by_cmp row_cmp q (key_of_row row)) (values_bounded rows h.1 q) where
  by : (b : Bool) → IsBounded (length (values_at row_cmp key_of_row item_of_row rows q)) (int_sum (values_at row_cmp key_of_row item_of_row rows q))
      → IsBounded (length (map item_of_row (cond b (row ∷ filter (λ r. eq_by_cmp row_cmp q (key_of_row r)) rows) (filter (λ r. eq_by_cmp row_cmp q (key_of_row r)) rows))))
      (int_sum (map item_of_row (cond b (row ∷ filter (λ r. eq_by_cmp row_cmp q (key_of_row r)) rows) (filter (λ r. eq_by_cmp row_cmp q (key_of_row r)) rows))))
  by true more = subst (λ (n : ℕ). IsBounded n (item_of_row row +ℤ int_sum (values_at row_cmp key_of_row item_of_row rows q))) (omega arith) (bounded_more _ (item_of_row row) _ (item_fits row h.0) more)
  by false more = more

-- each row is among those of its key
more_values : (row : List Val) (rows : List (List Val)) (q : List Val) → length (values_at row_cmp key_of_row item_of_row rows q) ≤ length (values_at row_cmp key_of_row item_of_row (row ∷ rows) q)
more_values row rows q = by (eq_by_cmp row_cmp q (key_of_row row)) where
  by : (b : Bool) → length (values_at row_cmp key_of_row item_of_row rows q)
      ≤ length (map item_of_row (cond b (row ∷ filter (λ r. eq_by_cmp row_cmp q (key_of_row r)) rows) (filter (λ r. eq_by_cmp row_cmp q (key_of_row r)) rows)))
  by true = omega arith
  by false = omega arith

own_value : (row : List Val) (rows : List (List Val)) → 1 ≤ length (values_at row_cmp key_of_row item_of_row (row ∷ rows) (key_of_row row))
own_value row rows = by (eq_by_cmp row_cmp (key_of_row row) (key_of_row row)) (itself row_cmp_total row_cmp_exact (key_of_row row)) where
  by : (b : Bool) → b ≡ true
      → 1 ≤ length (map item_of_row (cond b (row ∷ filter (λ r. eq_by_cmp row_cmp (key_of_row row) (key_of_row r)) rows) (filter (λ r. eq_by_cmp row_cmp (key_of_row row) (key_of_row r)) rows)))
  by true e = omega arith
  by false e = absurd cc

own_values : (rows : List (List Val)) → AllByRecursion (λ row. 1 ≤ length (values_at row_cmp key_of_row item_of_row rows (key_of_row row))) rows
own_values [] = tt
own_values (row ∷ rows) = (own_value row rows, all_from (λ r h. omega (arith, h, more_values row rows (key_of_row r))) rows (own_values rows))

-- ---- the cells

-- the cell of a key
abbrev cell_of_key : List (List Val) → List Val → Cell
cell_of_key rows q = (q, summed (values_at row_cmp key_of_row item_of_row rows q))

cell_fits : (rows : List (List Val)) → FitsRows joined_columns row_limit rows → (row : List Val) → FitsRow joined_columns row
    → 1 ≤ length (values_at row_cmp key_of_row item_of_row rows (key_of_row row)) → FitsCell (cell_of_key rows (key_of_row row))
cell_fits rows h row fits one =
    let bounds = values_bounded rows h.1 (key_of_row row) in
    record { key = key_fits row fits; counted = one; few = omega (arith, h.0, length-values_at row_cmp key_of_row item_of_row rows (key_of_row row)); low = bounds.low; high = bounds.high }

cells_of_keys : (rows keys : List (List Val)) → AllByRecursion {X = Cell} (λ e. FitsCell (cell_of_key rows e.0)) (map (cell_of_key rows) keys) → AllByRecursion FitsCell (map (cell_of_key rows) keys)
cells_of_keys rows [] h = tt
cells_of_keys rows (k ∷ keys) h = (h.0, cells_of_keys rows keys h.1)

below_next : (c : Cell) (cells : List Cell) → AllByRecursion (λ y. row_cmp c.0 y ≡ Less) (map (λ (d : Cell). d.0) cells) → rises cell_below cells ≡ true → rises cell_below (c ∷ cells) ≡ true
below_next c [] h up = refl
below_next c (d ∷ cells) h up = rw (ap is_lt h.0) up

rises_sorted : (cells : List Cell) → IsStrictlySortedBy row_cmp (map (λ (c : Cell). c.0) cells) → rises cell_below cells ≡ true
unfolding IsStrictlySortedBy
rises_sorted [] h = refl
rises_sorted (c ∷ cells) h = below_next c cells h.0 (rises_sorted cells h.1)

pub base_fits : (rows : List (List Val)) → FitsRows joined_columns row_limit rows → FitsCells (base_of rows)
base_fits rows h = record {
  each = cells_of_keys rows (distinct row_cmp (map key_of_row rows))
      (all_grouped row_cmp_total row_cmp_exact (λ q. FitsCell (cell_of_key rows q)) key_of_row item_of_row summed rows
      (all_both (λ row fits one. cell_fits rows h row fits one) rows h.1 (own_values rows)));
  rising = rises_sorted (base_of rows) (rises-grouped row_cmp_total row_cmp_exact key_of_row item_of_row summed rows);
  few = omega (arith, h.0, count_aggregate row_cmp_total row_cmp_exact sum_laws key_of_row item_of_row rows);
}
