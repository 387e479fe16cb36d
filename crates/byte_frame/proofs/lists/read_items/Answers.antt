use Rattle.byte_frame.specs.Reading.{items_at}
use Rattle.byte_frame.proofs.Loop.{items_more, items_fail, items_done}
use Rattle.byte_frame.proofs.lists.read_items.Goals as goal

pub returns-in-Err : goal.returns-in-Err
returns-in-Err g c = items_fail (g.C.Reads.at c.args.c.now) c.in-Err.e c.loop.items.items c.args.count c.loop.counter c.loop.r (items_at (g.C.Reads.at c.args.c.now) c.args.count c.args.r.now) c.loop-test.true c.in-Err.ensures c.loop.invariant

pub loop-preserved : goal.loop-preserved
loop-preserved g c = rw c.in_ok-push.ensures.items (items_more (g.C.Reads.at c.args.c.now) c.loop.items.items c.args.count c.loop.counter c.loop.r c.in-Ok.item c.read.new.r (items_at (g.C.Reads.at c.args.c.now) c.args.count c.args.r.now) c.loop-test.true c.in-Ok.ensures c.loop.invariant)

pub returns : goal.returns
returns g c = items_done (g.C.Reads.at c.args.c.now) c.loop.items.items c.args.count c.loop.counter c.loop.r (items_at (g.C.Reads.at c.args.c.now) c.args.count c.args.r.now) c.loop-test.false c.loop.invariant
