use Rattle.cell_merge.proofs.CuboidFacts.{merged_is_cuboid}
use Rattle.cell_merge.proofs.ValueFacts.{merged_means_rows}
use Rattle.cell_merge.proofs.laws.merged_cuboids.Goals as goal

pub returns-clause-cuboid : goal.returns-clause-cuboid
returns-clause-cuboid c = merged_is_cuboid

pub returns-clause-meaning : goal.returns-clause-meaning
returns-clause-meaning c = merged_means_rows
