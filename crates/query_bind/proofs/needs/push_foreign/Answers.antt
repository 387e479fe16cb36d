use Rattle.std.proofs.Common.{get_or, refl}
use Rattle.query_bind.specs.Needs.{rowkey_place}
use Rattle.query_bind.proofs.NeedLemmas.{pushed_more}
use Rattle.query_bind.proofs.needs.push_foreign.Goals as goal

pub loop-column-preserved : goal.loop-column-preserved
loop-column-preserved c =
    let foreign = c.args.foreign.now in
    let i = c.loop-column.column-index in
    pushed_more (rowkey_place c.args.parts.now) foreign i (get_or foreign i 0) 0 c.args.bits.now.items c.loop-column.bits.items c.push_bit.new.bits.items c.rowkey_place.result
    c.loop-column-test.true refl c.loop-column.invariant (rw (← c.parts.view_is) (rw c.as_slice.ensures at c.rowkey_place.ensures.place)) c.in_ok-push_bit.ensures
