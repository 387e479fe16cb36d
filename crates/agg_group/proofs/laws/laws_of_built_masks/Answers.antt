use Rattle.agg_group.proofs.BuiltLemmas.{built_are_built}
use Rattle.agg_group.proofs.laws.laws_of_built_masks.Goals as goal

pub returns : goal.returns
returns c = built_are_built
