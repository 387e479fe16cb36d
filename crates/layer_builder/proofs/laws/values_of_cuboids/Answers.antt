use Rattle.layer_builder.proofs.MeaningFacts.{cuboid_means_rows}
use Rattle.layer_builder.proofs.laws.values_of_cuboids.Goals as goal

pub returns : goal.returns
returns c = cuboid_means_rows
