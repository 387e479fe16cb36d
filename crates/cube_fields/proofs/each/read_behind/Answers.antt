use Rattle.std.proofs.Common.{drop, ◌+◌}
use Rattle.std.proofs.lemmas.List.{drop_all}
use Rattle.byte_frame.specs.Reading.{each_at}
use Rattle.byte_frame.proofs.Loop.{with_front, each_more, each_fail, each_done, left_is}
use Rattle.cube_fields.proofs.each.read_behind.Goals as goal

pub returns-in-Err : goal.returns-in-Err
returns-in-Err g c =
    let at = g.C.ReadsIn.at c.args.env.now in
    let is = left_is c.args.cs.now c.loop-c.c-index c.c-item.result c.loop-c-test.true c.c-item.is in
    each_fail at c.in-Err.e c.loop-c.items.items (drop c.loop-c.c-index c.args.cs.now) c.c-item.result (drop (c.loop-c.c-index + 1) c.args.cs.now) c.loop-c.r (with_front c.args.front.items (each_at at c.args.cs.now c.args.r.now)) is c.in-Err.ensures c.loop-c.invariant

pub loop-c-preserved : goal.loop-c-preserved
loop-c-preserved g c =
    let at = g.C.ReadsIn.at c.args.env.now in
    let is = left_is c.args.cs.now c.loop-c.c-index c.c-item.result c.loop-c-test.true c.c-item.is in
    rw c.in_ok-push.ensures.items (each_more at c.loop-c.items.items (drop c.loop-c.c-index c.args.cs.now) c.c-item.result (drop (c.loop-c.c-index + 1) c.args.cs.now) c.loop-c.r c.in-Ok.item c.read_in.new.r (with_front c.args.front.items (each_at at c.args.cs.now c.args.r.now)) is c.in-Ok.ensures c.loop-c.invariant)

pub returns : goal.returns
returns g c =
    let at = g.C.ReadsIn.at c.args.env.now in
    each_done at c.loop-c.items.items (drop c.loop-c.c-index c.args.cs.now) c.loop-c.r (with_front c.args.front.items (each_at at c.args.cs.now c.args.r.now)) (drop_all c.loop-c.c-index c.args.cs.now c.loop-c-test.false) c.loop-c.invariant
