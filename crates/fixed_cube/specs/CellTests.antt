-- The same as tests, for readers.
use Rattle.std.specs.Prelude.{◌≡◌, ◌≤◌, ◌-◌, ◌*◌, ℕ, pos, neg_ℤ, int_le, nat_le, Bool, true, false, ◌&&◌, List, [], ◌∷◌, length, if◌then◌else◌}
use Rattle.std.specs.List.{sum_by}
use Rattle.byte_frame.specs.Spelling.{rises}
use Rattle.measure_laws.specs.Measures.{Summed, most_of_item}
use Rattle.fixed_cube.specs.Cells.{Cell, cell_below, count_of}
use Rattle.fixed_cube.specs.Columns.{row_limit}

-- a count of at least 1 and at most the row limit, and a sum that so many items can have
abbrev pub is_cell_sum : Summed → Bool
is_cell_sum s =
    (nat_le 1 s.items && nat_le s.items row_limit)
    && (int_le (neg_ℤ (pos (s.items * most_of_item))) s.total && int_le s.total (pos (s.items * most_of_item)))

-- each count is at least 1, and together they are at most so many
abbrev pub counts_fit : ℕ → List Cell → Bool
counts_fit most [] = true
counts_fit most (c ∷ cells) = if nat_le 1 (count_of c) && nat_le (count_of c) most then counts_fit (most - count_of c) cells else false

-- what every list of cells of a program keeps
pub record AreCells (cells : List Cell) : Type 0 where
  pub short : length cells ≤ row_limit
  pub few : sum_by count_of cells ≤ row_limit
  pub rising : rises cell_below cells ≡ true
