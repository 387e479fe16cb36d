-- The bytes of cells.
use Rattle.std.specs.Prelude.{ℕ, List, ◌++◌}
use Rattle.std.specs.Int.{w64, w128, to_be_bytes}
use Rattle.byte_frame.specs.Spelling.{list_text, signed_text}
use Rattle.step_fields.specs.Spelling.{row_text}
use Rattle.fixed_cube.specs.Cells.{Cell}

-- D1, D2, the count in eight bytes and the sum in sixteen
abbrev pub cell_text : Cell → List ℕ
cell_text c = row_text c.0 ++ (to_be_bytes w64 c.1.items ++ signed_text w128 c.1.total)

-- a u32 count, and the cells
abbrev pub cells_text : List Cell → List ℕ
cells_text cells = list_text cell_text cells
