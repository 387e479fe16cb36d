-- The cuboids that a plan chooses from.
use Rattle.std.specs.Prelude.{ℕ, ◌-◌, ◌<◌, ◌≤◌, List, length, slice_index_or, All, AllPairs}
use Rattle.agg_group.specs.Limits.{most_cuboids}
use Rattle.agg_group.specs.Mask.{IsWithin}
use Rattle.cuboid_planner.specs.declared.cuboid.Size.{Size}

-- the most rows of a cuboid
abbrev pub most_rows : ℕ
most_rows = 200_000

abbrev pub size_at : List Size → ℕ → Size
size_at sizes i = slice_index_or sizes i (record { mask = record { 0 = 0 }; rows = 0 })

-- the base, which stands last
abbrev pub base_of : List Size → Size
base_of sizes = size_at sizes (length sizes - 1)

-- Some cuboids by rising masks, of which the last has the dimensions of each, with numbers of rows that can be added up.
pub record AreSizes (sizes : List Size) : Type 0 where
  pub some : 0 < length sizes
  pub few : length sizes ≤ most_cuboids
  pub rising : AllPairs (λ a b. a.mask.0 < b.mask.0) sizes
  pub base : All (λ s. IsWithin s.mask (base_of sizes).mask) sizes
  pub small : All (λ s. s.rows ≤ most_rows) sizes
