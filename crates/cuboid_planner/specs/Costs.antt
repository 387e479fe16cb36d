-- What cuboids cost, and what a choice saves.
use Rattle.std.specs.Prelude.{ℕ, ◌-◌, min, if◌then◌else◌, List, map, filter, fold, sum_by}
use Rattle.agg_group.specs.declared.mask.Mask.{Mask}
use Rattle.agg_group.specs.Mask.{is_within}
use Rattle.cuboid_planner.specs.declared.cuboid.Size.{Size}
use Rattle.cuboid_planner.specs.declared.cuboid.Pick.{Pick}
use Rattle.cuboid_planner.specs.Sizes.{base_of}

-- the cost of a cuboid: the least number of rows that it can be made from, those of the base or of a choice that has all its dimensions
abbrev pub cost : List Size → List Pick → Mask → ℕ
cost sizes picks m = fold min (base_of sizes).rows (map (λ p. p.rows) (filter (λ p. is_within m p.mask) picks))

-- the benefit of a further choice: the rows by which it lowers the costs of the cuboids within it
abbrev pub saving : List Size → List Pick → Size → Size → ℕ
saving sizes picks choice s = if is_within s.mask choice.mask then cost sizes picks s.mask - choice.rows else 0

abbrev pub benefit : List Size → List Pick → Size → ℕ
benefit sizes picks choice = sum_by (saving sizes picks choice) sizes

-- what all cuboids cost
abbrev pub total : List Size → List Pick → ℕ
total sizes picks = sum_by (λ s. cost sizes picks s.mask) sizes
