-- Rows of one key.
use Rattle.std.specs.Prelude.{ℕ, Bool, List, ◌==◌}
use Rattle.std.specs.Cmp.Lexicographic.{pointwise}
use Rattle.cell_store.specs.declared.cell.Cell.{Cell}

-- a row has this key
abbrev pub has_key : List ℕ → List ℕ × List Cell → Bool
has_key key row = pointwise ◌==◌ row.0 key
