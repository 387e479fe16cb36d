-- Readers of cells.
use Rattle.std.specs.Prelude.{ℕ, ℤ, List, Option}
use Rattle.std.specs.Int.{w64, w128}
use Rattle.byte_frame.specs.Reading.{as_at, if_at, list_at, number_at, signed_at, then_at}
use Rattle.byte_frame.specs.Spelling.{rises}
use Rattle.cube_val.specs.declared.val.Val.{Val}
use Rattle.step_fields.specs.Reading.{row_at}
use Rattle.fixed_cube.specs.Cells.{Cell, cell_below}
use Rattle.fixed_cube.specs.CellTests.{counts_fit, is_cell_sum}
use Rattle.fixed_cube.specs.Columns.{key_columns, row_limit}

-- the cell of a key, a count and a sum
abbrev pub cell_from : List Val × (ℕ × ℤ) → Cell
cell_from parts = (parts.0, record { items = parts.1.0; total = parts.1.1 })

abbrev pub cell_at : List ℕ → Option (Cell × List ℕ)
cell_at = if_at (λ c. is_cell_sum c.1) (as_at cell_from (then_at (row_at key_columns) (λ _. then_at (number_at w64) (λ _. signed_at w128))))

abbrev pub cells_at : List ℕ → Option (List Cell × List ℕ)
cells_at = if_at (rises cell_below) (if_at (counts_fit row_limit) (list_at row_limit cell_at))
