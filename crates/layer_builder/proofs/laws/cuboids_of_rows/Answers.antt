use Rattle.layer_builder.proofs.CuboidFacts.{base_is_cuboid, regrouped_is_cuboid}
use Rattle.layer_builder.proofs.laws.cuboids_of_rows.Goals as goal

pub returns-clause-base : goal.returns-clause-base
returns-clause-base c = base_is_cuboid

pub returns-clause-regrouped : goal.returns-clause-regrouped
returns-clause-regrouped c = regrouped_is_cuboid
