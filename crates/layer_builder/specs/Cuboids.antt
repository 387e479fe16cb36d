-- Cuboids of rows, and what the base cuboid and the regrouped ones have to do with them.
use Rattle.std.specs.Prelude.{◌≡◌, ◌≤◌, ℕ, List, map}
use Rattle.agg_group.specs.declared.mask.Mask.{Mask}
use Rattle.agg_group.specs.Mask.{IsWithin}
use Rattle.cube_val.specs.declared.val.Val.{Val}
use Rattle.plain_answer.specs.declared.ask.Agg.{Agg}
use Rattle.plain_answer.specs.Aggregates.{cell}
use Rattle.cell_store.specs.Cells.{CellRows}
use Rattle.cell_gather.specs.Gathers.{aggregated}
use Rattle.cell_gather.specs.Keys.{dims_of}
use Rattle.plain_answer.specs.Kinds.{form_of_kind}
use Rattle.layer_builder.specs.Base.{IsBase, base_mask, dict_at, key_width, measures_from, number_in}
use Rattle.layer_builder.specs.Layers.{IsRegrouped}

-- the key of a row by the dimensions of a mask, rising: the number of its value in each of these columns
abbrev pub key_by : List (List Val) → Mask → List Val → List ℕ
key_by dicts dims row = map (λ column. number_in (dict_at dicts column) (cell row column)) (dims_of dims)

-- a table is the cuboid of rows by some dimensions: their aggregate by the numbers of these columns
pub record IsCuboid (aggs : List Agg) (dicts : List (List Val)) (flat : List (List Val)) (dims : Mask) (table : CellRows) : Type 0 where
  pub mask : table.mask ≡ dims
  pub forms : table.forms ≡ map (λ agg. form_of_kind agg.kind) aggs
  pub rows : table.rows ≡ aggregated (measures_from dicts (key_width aggs dicts) aggs) (key_by dicts dims) flat

-- the base cuboid of rows is their cuboid by all rowkey columns
abbrev pub BaseIsCuboid : Type 0
BaseIsCuboid =
    (aggs : List Agg) (dicts flat : List (List Val)) (table : CellRows)
    → key_width aggs dicts ≤ 64 → IsBase aggs dicts flat table → IsCuboid aggs dicts flat (base_mask (key_width aggs dicts)) table

-- a table that is regrouped from a cuboid of rows is the cuboid of the same rows by the smaller set
abbrev pub RegroupedIsCuboid : Type 0
RegroupedIsCuboid =
    (aggs : List Agg) (dicts flat : List (List Val)) (whole dims : Mask) (parent table : CellRows)
    → IsWithin dims whole → IsCuboid aggs dicts flat whole parent → IsRegrouped parent dims table → IsCuboid aggs dicts flat dims table
