-- Rows with their keys, and what those of one key come to.
use Rattle.std.specs.Prelude.{◌≡◌, ◌<◌, ◌+◌, ◌*◌, ◌^◌, ℕ, Bool, List, ◌==◌, slice_index_or}
use Rattle.std.specs.Cmp.Lexicographic.{pointwise}
use Rattle.aggregation.specs.Groups.{grouped}
use Rattle.cell_gather.specs.Gathers.{RowMeasure, cells_of}
use Rattle.cell_store.specs.Cells.{key_cmp}
use Rattle.cell_store.specs.declared.cell.Cell.{Cell}
use Rattle.cube_val.specs.declared.val.Val.{Val}

-- a row has this key
abbrev pub has_key : List ℕ → List ℕ × List Val → Bool
has_key key row = pointwise ◌==◌ row.0 key

-- for each distinct key, in order, the cells of the rows that have it
abbrev pub cells_by_key : List (RowMeasure (List Val)) → List (List ℕ × List Val) → List (List ℕ × List Cell)
cells_by_key measures rows = grouped key_cmp (λ row. row.0) (λ row. row.1) (cells_of measures) rows

-- a number has the first two numbers of a key, 0 past its end, as its halves of 32 bits
pub record HasFront (key : List ℕ) (front : ℕ) : Type 0 where
  pub numbers : front ≡ slice_index_or key 0 0 * 2 ^ 32 + slice_index_or key 1 0
  pub second : slice_index_or key 1 0 < 2 ^ 32
