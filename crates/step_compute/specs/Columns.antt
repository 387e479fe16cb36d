-- The aggregates that a cube's cuboids keep.
use Rattle.std.specs.Prelude.{ℕ, List, ◌∷◌, Option, Some, None, map, unwrap_or}
use Rattle.cube_val.specs.declared.val.ColType.{ColType}
use Rattle.cube_val.specs.declared.val.ColType.TheVariants as ty
use Rattle.cube_desc.specs.Cube.{Cube}
use Rattle.cube_desc.specs.FlatRow.{place_of}
use Rattle.cube_desc.specs.Kept.{kept_behind}
use Rattle.cube_desc.specs.Sound.{columns_at, type_at}
use Rattle.cube_desc.specs.declared.kept.Kept.{Kept}
use Rattle.plain_answer.specs.declared.ask.Agg.{Agg}
use Rattle.plain_answer.specs.declared.ask.AggKind.TheVariants as kind
use Rattle.plain_answer.specs.Kinds.{kind_of_form}

-- the type of the fact table's column that a measure is of
abbrev pub type_of : Cube → Option ℕ → ColType
type_of c None = ty.Int
type_of c (Some column) = unwrap_or (type_at (columns_at c.tables 0) column) ty.Int

-- what a measure makes of flat rows
abbrev pub agg_of : Cube → Kept → Agg
agg_of c k = record { kind = kind_of_form k.form; column = Some (place_of c k.column); ty = type_of c k.column }

abbrev pub count : Agg
count = record { kind = kind.Count; column = None; ty = ty.Int }

-- the count of rows, which is always kept, and then the other measures in their order
abbrev pub kept_aggs : Cube → List Agg
kept_aggs c = count ∷ map (agg_of c) (kept_behind c)
