-- Rows of two columns and an item, with their sums written out.
use Rattle.std.specs.Prelude.{ℕ, ℤ, pos, List, [], ◌∷◌}
use Rattle.std.specs.declared.cmp.Ordering.{Ordering}
use Rattle.std.specs.Ordering.{nat_cmp, on, then_cmp}
use Rattle.measure_laws.specs.Measures.{Summed}

abbrev pub pair_cmp : ℕ × ℕ → ℕ × ℕ → Ordering
pair_cmp = then_cmp (on (λ p. p.0) nat_cmp) (on (λ p. p.1) nat_cmp)

abbrev pub rows : List ((ℕ × ℕ) × ℤ)
rows = ((1, 7), pos 10) ∷ ((2, 7), pos 20) ∷ ((1, 8), pos 30) ∷ ((1, 7), pos 40) ∷ []

-- the sums by both columns
abbrev pub by_both : List ((ℕ × ℕ) × Summed)
by_both = ((1, 7), record { items = 2; total = pos 50 }) ∷ ((1, 8), record { items = 1; total = pos 30 }) ∷ ((2, 7), record { items = 1; total = pos 20 }) ∷ []

-- the sums by the first column
abbrev pub by_first : List (ℕ × Summed)
by_first = (1, record { items = 3; total = pos 80 }) ∷ (2, record { items = 1; total = pos 20 }) ∷ []
