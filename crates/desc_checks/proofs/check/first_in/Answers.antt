use Rattle.desc_checks.proofs.FirstLemmas.{first_here, first_later}
use Rattle.desc_checks.proofs.check.first_in.Goals as goal

pub returns-in-Some : goal.returns-in-Some
returns-in-Some g c = first_here (g.C.Check.failing c.args.check.now) _ _ c.item-item.result _ _ c.loop-item-test.true c.item-item.is c.loop-item.invariant c.in-Some.ensures

pub loop-item-preserved : goal.loop-item-preserved
loop-item-preserved g c = first_later (g.C.Check.failing c.args.check.now) _ _ c.item-item.result _ c.loop-item-test.true c.item-item.is c.loop-item.invariant c.in-None.ensures
