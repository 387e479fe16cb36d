-- Costs that are kept, one for each cuboid.
use Rattle.std.specs.Prelude.{◌≡◌, ℕ, ◌<◌, ◌≤◌, List, length, slice_index}
use Rattle.cuboid_planner.specs.declared.cuboid.Size.{Size}
use Rattle.cuboid_planner.specs.declared.cuboid.Pick.{Pick}
use Rattle.cuboid_planner.specs.Sizes.{size_at, most_rows}
use Rattle.cuboid_planner.specs.Costs.{cost}

-- the numbers are what the cuboids cost with these choices; more numbers may follow
abbrev pub HasCosts : List Size → List Pick → List ℕ → Type 0
HasCosts sizes picks costs = (k : ℕ) → k < length sizes → slice_index costs k ≡ cost sizes picks (size_at sizes k).mask

-- there is a number for each cuboid, none above the most rows
abbrev pub AreLow : List Size → List ℕ → Type 0
AreLow sizes costs = (length sizes ≤ length costs) × ((k : ℕ) → k < length sizes → slice_index costs k ≤ most_rows)
