-- Cuboids of smaller dimension sets.
use Rattle.std.specs.Prelude.{◌≡◌, ◌<◌, List, length}
use Rattle.std.specs.List.{HoldsAt}
use Rattle.agg_group.specs.declared.mask.Mask.{Mask}
use Rattle.agg_group.specs.Mask.{IsWithin}
use Rattle.cell_store.specs.Cells.{CellRows}
use Rattle.cell_gather.specs.Gathers.{gathered}
use Rattle.cell_gather.specs.Keys.{part_of}
use Rattle.layer_builder.specs.declared.layers.Want.{Want}

-- a table has the parent's rows, gathered by the dimensions of a mask
pub record IsRegrouped (parent : CellRows) (dims : Mask) (table : CellRows) : Type 0 where
  pub mask : table.mask ≡ dims
  pub forms : table.forms ≡ parent.forms
  pub rows : table.rows ≡ gathered parent.forms (part_of parent.mask dims) parent.rows

-- the parent of a wanted cuboid is there, and has its dimensions
pub record HasParent (parents : List CellRows) (want : Want) : Type 0 where
  pub there : want.parent < length parents
  pub within : HoldsAt (λ parent. IsWithin want.mask parent.mask) parents want.parent

-- a table is the wanted one
abbrev pub IsWanted : List CellRows → Want → CellRows → Type 0
IsWanted parents want table = HoldsAt (λ parent. IsRegrouped parent want.mask table) parents want.parent
