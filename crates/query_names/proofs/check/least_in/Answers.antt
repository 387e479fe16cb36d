use Rattle.std.proofs.Common.{◌∙◌}
use Rattle.query_names.proofs.LeastLemmas.{least_more}
use Rattle.query_names.proofs.check.least_in.Goals as goal

pub loop-item-preserved : goal.loop-item-preserved
loop-item-preserved g c = c.lesser-found.ensures ∙ least_more (g.C.Check.failing c.args.check.now) _ _ c.item-item.result _ _ c.loop-item-test.true c.item-item.is c.loop-item.invariant c.least.ensures
