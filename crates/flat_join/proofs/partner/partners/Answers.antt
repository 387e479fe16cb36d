use Rattle.std.proofs.Common.{◌+◌, arith}
use Rattle.flat_join.proofs.ServeFacts.{found_pushed}
use Rattle.flat_join.proofs.partner.partners.Goals as goal

pub loop-i-preserved : goal.loop-i-preserved
loop-i-preserved c =
    found_pushed c.args.joins.now c.args.snaps.now c.args.fact.now c.loop-i.i (c.loop-i.i + 1) c.index-joins-i.result c.index-snaps-i.result c.loop-i.found.items c.push.new.self.items c.in_ok-partner.partner
    (omega arith) c.loop-i-test.true (omega arith) c.index-joins-i.is c.index-snaps-i.is c.loop-i.invariant c.in_ok-partner.ensures c.in_ok-push.ensures.items
