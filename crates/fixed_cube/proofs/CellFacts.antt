-- Cells and lists of them are read exactly.
use Rattle.std.proofs.Common.{◌≡◌, ◌≤◌, ◌<◌, ◌+◌, ◌-◌, ◌*◌, ◌^◌, ◌++◌, ℕ, ℤ, pos, negsuc, neg_ℤ, Bool, true, false, ◌&&◌, cond, List, [], ◌∷◌, length, Option, Some, None, refl, sym, ap, subst, ◌∙◌, arith, rules}
use Rattle.std.specs.Int.Signed.{mag}
use Rattle.std.specs.Prelude.{◌≤ℤ◌, FitsSigned, int_le, nat_le}
use Rattle.std.specs.Int.{w64, w128, to_be_bytes}
use Rattle.std.specs.List.{AllByRecursion, sum_by}
use Rattle.std.proofs.lemmas.Bool.Decides.{nat_tests}
use Rattle.std.proofs.lemmas.Int.{ints}
use Rattle.std.proofs.lemmas.List.Sums.{sum_by-cons}
use Rattle.byte_frame.specs.Exact.{Exact}
use Rattle.byte_frame.specs.Reading.{as_at, list_at, number_at, signed_at, then_at}
use Rattle.byte_frame.specs.Spelling.{rises, signed_text}
use Rattle.byte_frame.proofs.Exact.{exact_as, exact_fit, exact_if, exact_list, exact_number, exact_then, wide64}
use Rattle.byte_frame.proofs.Wide.{exact_signed, wide128}
use Rattle.cube_val.specs.declared.val.Val.{Val}
use Rattle.measure_laws.specs.Measures.{IsSum, Summed, most_of_item}
use Rattle.step_fields.specs.Fits.{FitsRow}
use Rattle.step_fields.specs.Reading.{row_at}
use Rattle.step_fields.specs.Spelling.{row_text}
use Rattle.step_fields.proofs.Exact.{exact_row}
use Rattle.fixed_cube.specs.Cells.{Cell, FitsCell, FitsCells, cell_below, count_of}
use Rattle.fixed_cube.specs.CellTests.{AreCells, counts_fit, is_cell_sum}
use Rattle.fixed_cube.specs.Columns.{key_columns, row_limit}
use Rattle.fixed_cube.specs.Reading.{cell_at, cell_from, cells_at}
use Rattle.fixed_cube.specs.Spelling.{cell_text, cells_text}

pub both : (a b : Bool) → (a && b) ≡ true → (a ≡ true) × (b ≡ true)
both true b h = (refl, h)
both false b h = absurd cc

pub both_again : (a b : Bool) → a ≡ true → b ≡ true → (a && b) ≡ true
both_again a b h g = rw (h, g) refl

-- ---- the sum of a cell

pub record IsCellSum (s : Summed) : Type 0 where
  pub counted : 1 ≤ s.items
  pub few : s.items ≤ row_limit
  pub low : neg_ℤ (pos (s.items * most_of_item)) ≤ℤ s.total
  pub high : s.total ≤ℤ pos (s.items * most_of_item)

at_most : (a b : ℕ) → nat_le a b ≡ true → a ≤ b
at_most a b h = grind (arith, nat_tests)

at_most_again : (a b : ℕ) → a ≤ b → nat_le a b ≡ true
at_most_again a b h = grind (arith, nat_tests)

no_more : (a b : ℤ) → int_le a b ≡ true → a ≤ℤ b
no_more a b h = grind (arith, ints)

no_more_again : (a b : ℤ) → a ≤ℤ b → int_le a b ≡ true
no_more_again a b h = grind (arith, ints)

pub is_sum : (s : Summed) → is_cell_sum s ≡ true → IsCellSum s
is_sum s h =
    let halves = both _ _ h in
    let counts = both _ _ halves.0 in
    let sums = both _ _ halves.1 in
    record { counted = at_most _ _ counts.0; few = at_most _ _ counts.1; low = no_more _ _ sums.0; high = no_more _ _ sums.1 }

pub is_sum_again : (s : Summed) → IsCellSum s → is_cell_sum s ≡ true
is_sum_again s h = both_again _ _ (both_again _ _ (at_most_again _ _ h.counted) (at_most_again _ _ h.few)) (both_again _ _ (no_more_again _ _ h.low) (no_more_again _ _ h.high))

pub sum_of_cell : (s : Summed) → IsCellSum s → IsSum s
sum_of_cell s h = record { few = omega (arith, h.few); low = h.low; high = h.high }

within : (n : ℕ) (z : ℤ) → neg_ℤ (pos n) ≤ℤ z → z ≤ℤ pos n → mag z ≤ n
within n (pos k) low high = omega (arith, ints, high)
within n (negsuc k) low high = omega (arith, ints, low)

total_fits : (n : ℕ) (total : ℤ) → n ≤ row_limit → neg_ℤ (pos (n * most_of_item)) ≤ℤ total → total ≤ℤ pos (n * most_of_item) → FitsSigned w128 total
total_fits n total few low high = record { sfits = omega (arith, few, within (n * most_of_item) total low high) }

-- ---- one cell

-- what a cell keeps by its fields alone
abbrev FitsFields : Cell → Type 0
FitsFields c = FitsRow key_columns c.0 × ((c.1.items < 2 ^ 64) × FitsSigned w128 c.1.total)

exact_fields : Exact cell_text FitsFields (as_at cell_from (then_at (row_at key_columns) (λ _. then_at (number_at w64) (λ _. signed_at w128))))
exact_fields = exact_as cell_from (λ (c : Cell). (c.0, (c.1.items, c.1.total))) _ _ FitsFields _ (λ x h. (refl, h)) (λ c h. (refl, h))
    (exact_then _ _ _ (λ _ (q : ℕ × ℤ). to_be_bytes w64 q.0 ++ signed_text w128 q.1) _ _ (exact_row key_columns)
    (λ key h. exact_then _ _ _ (λ _ total. signed_text w128 total) _ _ (exact_number w64 (2 ^ 64) wide64) (λ n g. exact_signed w128 wide128)))

exact_cell : Exact cell_text FitsCell cell_at
exact_cell = exact_fit cell_text (λ (c : Cell). FitsFields c × (is_cell_sum c.1 ≡ true)) FitsCell cell_at
    (λ c h. let s = is_sum c.1 h.1 in record { key = h.0.0; counted = s.counted; few = s.few; low = s.low; high = s.high })
    (λ c h. ((h.key, (omega (arith, h.few), total_fits c.1.items c.1.total h.few h.low h.high)), is_sum_again c.1 (record { counted = h.counted; few = h.few; low = h.low; high = h.high })))
    (exact_if (λ (c : Cell). is_cell_sum c.1) _ _ _ exact_fields)

-- ---- lists

-- counts of at least 1 that fit are no fewer than the cells
pub counted : (most : ℕ) (cells : List Cell) → counts_fit most cells ≡ true → (length cells ≤ most) × (sum_by count_of cells ≤ most)
counted most [] e = (omega arith, omega arith)
counted most (c ∷ cells) e = by (nat_le 1 (count_of c) && nat_le (count_of c) most) refl e (counted (most - count_of c) cells) where
  by : (b : Bool) → (nat_le 1 (count_of c) && nat_le (count_of c) most) ≡ b → cond b (counts_fit (most - count_of c) cells) false ≡ true
      → (counts_fit (most - count_of c) cells ≡ true → (length cells ≤ most - count_of c) × (sum_by count_of cells ≤ most - count_of c))
      → (length (c ∷ cells) ≤ most) × (sum_by count_of (c ∷ cells) ≤ most)
  by false is e rest = absurd cc
  by true is e rest =
      let one = both (nat_le 1 (count_of c)) (nat_le (count_of c) most) is in
      let low = at_most _ _ one.0 in
      let high = at_most _ _ one.1 in
      let more = rest e in
      (omega (arith, low, high, more.0), omega (arith, low, high, more.1, sum_by-cons count_of c cells))

pub counts_again : (most : ℕ) (cells : List Cell) → AllByRecursion FitsCell cells → sum_by count_of cells ≤ most → counts_fit most cells ≡ true
counts_again most [] h few = refl
counts_again most (c ∷ cells) h few =
    let low = at_most_again 1 (count_of c) h.0.counted in
    let high = at_most_again (count_of c) most (omega (arith, few, sum_by-cons count_of c cells)) in
    rw (low, high) (counts_again (most - count_of c) cells h.1 (omega (arith, few, sum_by-cons count_of c cells)))

pub exact_cells : Exact cells_text FitsCells cells_at
exact_cells = exact_fit cells_text (λ (cells : List Cell). (((length cells ≤ row_limit) × AllByRecursion FitsCell cells) × (counts_fit row_limit cells ≡ true)) × (rises cell_below cells ≡ true)) FitsCells cells_at
    (λ cells h. record { each = h.0.0.1; rising = h.1; few = (counted row_limit cells h.0.1).1 })
    (λ cells h. let counts = counts_again row_limit cells h.each h.few in ((((counted row_limit cells counts).0, h.each), counts), h.rising))
    (exact_if (rises cell_below) _ _ _ (exact_if (counts_fit row_limit) _ _ _ (exact_list row_limit cell_text FitsCell cell_at (omega arith) exact_cell)))

-- what passes the tests is a list of cells of a program
pub are_cells : (cells : List Cell) → counts_fit row_limit cells ≡ true → rises cell_below cells ≡ true → AreCells cells
are_cells cells counts up = let few = counted row_limit cells counts in record { short = few.0; few = few.1; rising = up }

pub fitting_are_cells : (cells : List Cell) → FitsCells cells → AreCells cells
fitting_are_cells cells h = are_cells cells (counts_again row_limit cells h.each h.few) h.rising
