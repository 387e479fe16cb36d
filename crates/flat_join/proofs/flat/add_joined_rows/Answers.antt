use Rattle.flat_join.specs.Partners.{found_in}
use Rattle.flat_join.proofs.JoinFacts.{joined_more}
use Rattle.flat_join.proofs.flat.add_joined_rows.Goals as goal

pub loop-fact-preserved : goal.loop-fact-preserved
loop-fact-preserved c =
    joined_more (found_in c.args.plan.now.joins c.args.snaps.now) c.args.plan.now c.args.columns.now c.args.range.now c.args.facts.now c.loop-fact.fact-index c.fact-item.result c.args.flat.now c.loop-fact.flat
    c.add_joined.new.flat c.loop-fact-test.true c.fact-item.is c.loop-fact.invariant c.in_ok-add_joined.ensures
