use Rattle.std.proofs.Common.{sym, subst, arith}
use Rattle.agg_group.specs.Rules.{AreDimensions}
use Rattle.agg_group.proofs.ListLemmas.{one_list}
use Rattle.agg_group.proofs.units.add_hierarchies.Goals as goal

pub members-requires : goal.members-requires
members-requires c =
    subst AreDimensions (sym c.as_slice.ensures)
    (one_list AreDimensions c.args.hierarchies.now c.loop-hierarchy.hierarchy-index c.hierarchy-item.result (omega arith) c.hierarchy-item.is c.requires)
