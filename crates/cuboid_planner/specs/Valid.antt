-- A cuboid that can stand at its place of a list.
use Rattle.std.specs.Prelude.{ℕ, ◌-◌, ◌<◌, ◌≤◌, List}
use Rattle.agg_group.specs.Mask.{IsWithin}
use Rattle.cuboid_planner.specs.declared.cuboid.Size.{Size}
use Rattle.cuboid_planner.specs.Sizes.{most_rows, size_at, base_of}

-- it has not too many rows, the base has its dimensions, and its mask is above the one before it
pub record IsInPlace (sizes : List Size) (place : ℕ) : Type 0 where
  pub small : (size_at sizes place).rows ≤ most_rows
  pub within : IsWithin (size_at sizes place).mask (base_of sizes).mask
  pub above : 0 < place → (size_at sizes (place - 1)).mask.0 < (size_at sizes place).mask.0
