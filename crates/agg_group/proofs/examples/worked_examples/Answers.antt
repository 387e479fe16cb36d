use Rattle.std.proofs.Common.{refl}
use Rattle.agg_group.specs.Mask.{count_of}
use Rattle.agg_group.specs.Faults.{overlaps}
use Rattle.agg_group.specs.Units.{group_masks}
use Rattle.agg_group.specs.Built.{built_masks}
use Rattle.agg_group.proofs.examples.worked_examples.Goals as goal

pub returns : goal.returns
unfolding count_of overlaps group_masks built_masks
returns c = record {
  no_group = refl;
  unruled = refl;
  once = refl;
  kept_order = refl;
  kept_joint = refl;
  kept_mandatory = refl;
  kept_cap = refl;
  counted_mandatory = refl;
  sound = refl;
  first = refl;
}
