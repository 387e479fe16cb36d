-- The wanted cuboids of a layer.
use Rattle.std.specs.Prelude.{ℕ, List, slice_index_or}
use Rattle.std.specs.List.{position_or_len}
use Rattle.agg_group.specs.declared.mask.Mask.{Mask}
use Rattle.agg_group.specs.Mask.{mask_at}
use Rattle.cell_store.specs.Cells.{CellRows}
use Rattle.layer_builder.specs.declared.layers.Want.{Want}
use Rattle.step_compute.specs.Values.{has_mask, no_table, parent_mask, regrouped}

-- the cuboid at a place, with the place of its parent's table
abbrev pub want_of : List Mask → List CellRows → ℕ → Want
want_of masks parents i = record { mask = mask_at masks i; parent = position_or_len (has_mask (parent_mask masks i)) parents }

-- the table that is wanted
abbrev pub made_of : List CellRows → Want → CellRows
made_of parents want = regrouped (slice_index_or parents want.parent no_table) want.mask
