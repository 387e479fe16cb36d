use Rattle.std.proofs.Common.{refl}
use Rattle.agg_group.specs.Sets.{is_subset}
use Rattle.agg_group.specs.Mask.{count_of}
use Rattle.cuboid_tree.proofs.examples.worked_examples.Goals as goal

pub returns : goal.returns
unfolding is_subset count_of
returns c = record {
  first = refl;
  second = refl;
  third = refl;
  base = refl;
  tie = refl;
  children = refl;
  layer = refl;
  ruled_parents = refl;
  ruled_children = refl;
  ruled_layer = refl;
}
