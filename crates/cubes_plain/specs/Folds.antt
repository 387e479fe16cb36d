-- The text of `fold`.
use Rattle.std.specs.Prelude.{ℕ, List, [], ◌∷◌, ◌++◌, codes}
use Rattle.std.specs.Fmt.{decimal, signed_decimal}
use Rattle.std.specs.List.{flat_map}
use Rattle.csv.specs.Writing.{default_writer, row_text}
use Rattle.aggregation.specs.Groups.{aggregate}
use Rattle.cube_val.specs.Order.{val_cmp}
use Rattle.cube_val.specs.Values.{text_of}
use Rattle.cube_val.specs.declared.val.ColType.TheVariants as ty
use Rattle.cube_val.specs.declared.val.Val.{Val}
use Rattle.measure_laws.specs.Measures.{Summed, summed}
use Rattle.cubes_plain.specs.Rows.{d1_of, item_of}

-- a line as `csv` writes a record with its default settings
abbrev pub csv_line : List (List ℕ) → List ℕ
csv_line fields = row_text default_writer fields

abbrev pub header_line : List ℕ
header_line = csv_line (codes "D1" ∷ codes "COUNT(*)" ∷ codes "SUM(M)" ∷ [])

-- the line of a group: its D1, how many rows it has, and the sum of their M
abbrev pub group_line : Val × Summed → List ℕ
group_line g = csv_line (text_of ty.Text g.0 ∷ decimal g.1.items ∷ signed_decimal g.1.total ∷ [])

-- the text of `fold` over rows: a header, and a line for each distinct D1 in order
abbrev pub fold_text : List (List Val) → List ℕ
fold_text rows = header_line ++ flat_map group_line (aggregate val_cmp d1_of item_of summed rows)
