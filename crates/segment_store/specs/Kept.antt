-- The aggregates that the segments of a cube keep.
use Rattle.std.specs.Prelude.{ℕ, ◌+◌, List, ◌∷◌, Option, Some, None, length, map, unwrap_or}
use Rattle.std.specs.List.{position_or_len}
use Rattle.cube_desc.specs.Cube.{Cube}
use Rattle.cube_desc.specs.FlatRow.{is_column, measured}
use Rattle.cube_desc.specs.Kept.{kept_behind}
use Rattle.cube_desc.specs.Sound.{columns_at, type_at}
use Rattle.cube_desc.specs.declared.kept.Kept.{Kept}
use Rattle.cube_val.specs.declared.val.ColType.{ColType}
use Rattle.cube_val.specs.declared.val.ColType.TheVariants as ty
use Rattle.plain_answer.specs.Kinds.{kind_of_form}
use Rattle.plain_answer.specs.declared.ask.Agg.{Agg}
use Rattle.plain_answer.specs.declared.ask.AggKind.TheVariants as kind

-- the place in a joined row of the fact table's column that a measure is of: behind those of the rowkey and the derived ones
abbrev pub wide_place : Cube → Option ℕ → ℕ
wide_place c None = 0
wide_place c (Some column) = length c.rowkey + length c.derived + position_or_len (is_column column) (measured c)

-- its type
abbrev pub wide_type : Cube → Option ℕ → ColType
wide_type c None = ty.Int
wide_type c (Some column) = unwrap_or (type_at (columns_at c.tables 0) column) ty.Int

-- what a measure makes of joined rows
abbrev pub kept_as : Cube → Kept → Agg
kept_as c k = record { kind = kind_of_form k.form; column = Some (wide_place c k.column); ty = wide_type c k.column }

abbrev pub count_of_rows : Agg
count_of_rows = record { kind = kind.Count; column = None; ty = ty.Int }

-- the count of rows, which is always kept, and then the other measures in their order
unfoldable pub kept_of : Cube → List Agg
kept_of c = count_of_rows ∷ map (kept_as c) (kept_behind c)
