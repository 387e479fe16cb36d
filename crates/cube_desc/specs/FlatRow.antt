-- The places of a flat row: the columns of the rowkey come first, and then those of the fact table that measures are of.
use Rattle.std.specs.Prelude.{ℕ, ◌+◌, ◌==◌, Bool, List, Option, Some, None, drop, length}
use Rattle.std.specs.List.{position_or_len}
use Rattle.cube_val.specs.declared.form.WideCol.{WideCol}
use Rattle.cube_desc.specs.Cube.{Cube}

-- of the columns of a joined row those that measures are of, which come last
abbrev pub measured : Cube → List WideCol
measured c = drop (length c.rowkey + length c.derived) c.plan.wide

abbrev pub is_column : ℕ → WideCol → Bool
is_column column w = w.column == column

-- the place in a flat row of the fact table's column that a measure is of: behind those of the rowkey
abbrev pub place_of : Cube → Option ℕ → ℕ
place_of c None = 0
place_of c (Some column) = length c.rowkey + position_or_len (is_column column) (measured c)
