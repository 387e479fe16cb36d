use Rattle.std.proofs.Common.{List, sym, subst}
use Rattle.range_list.specs.Ranges.{Interval, IsFree}
use Rattle.fixed_state.proofs.RangeCopies.{copied_free, copied_more}
use Rattle.fixed_state.proofs.ready.copied_ranges.Goals as goal

pub insert-requires : goal.insert-requires
insert-requires c = subst (λ (rs : List Interval). IsFree rs c.get-range.result) (sym c.loop-place.invariant) (copied_free c.args.ranges.now c.loop-place.place c.get-range.result c.get-range.ensures c.len-place-end.ensures.apart)

pub loop-place-preserved : goal.loop-place-preserved
loop-place-preserved c = copied_more c.args.ranges.now c.loop-place.copied c.insert.new.self c.loop-place.place c.in_ok-insert.field-0 c.get-range.result c.get-range.ensures c.len-place-end.ensures.apart c.loop-place.invariant c.in_ok-insert.ensures.place c.in_ok-insert.ensures.inserted c.insert.ensures.apart
