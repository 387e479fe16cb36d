use Rattle.std.proofs.Common.{sym, subst, arith}
use Rattle.agg_group.specs.Rules.{AreDimensions}
use Rattle.agg_group.proofs.ListLemmas.{one_list}
use Rattle.agg_group.proofs.units.add_joints.Goals as goal

pub whole-requires : goal.whole-requires
whole-requires c =
    subst AreDimensions (sym c.as_slice.ensures)
    (one_list AreDimensions c.args.joints.now c.loop-joint.joint-index c.joint-item.result (omega arith) c.joint-item.is c.requires)
