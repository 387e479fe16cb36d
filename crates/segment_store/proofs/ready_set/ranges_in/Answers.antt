use Rattle.std.proofs.Common.{◌≡◌, ◌<◌, arith, length}
use Rattle.std.specs.Arc.{arc_value}
use Rattle.segment_store.proofs.Lists.{next_range, next_starts_later}
use Rattle.segment_store.proofs.ready_set.ranges_in.Goals as goal

pub add_last-requires : goal.add_last-requires
add_last-requires g c =
    let within : c.loop-segment.segment-index < length c.args.segments.now = omega arith in
    let range : c.range.result ≡ (arc_value c.segment-item.result).range = cc in
    next_starts_later arc_value c.args.segments.now c.loop-segment.segment-index c.segment-item.result within c.segment-item.is c.range.result range c.loop-segment.ranges c.requires c.loop-segment.invariant

pub loop-segment-preserved : goal.loop-segment-preserved
loop-segment-preserved g c =
    let within : c.loop-segment.segment-index < length c.args.segments.now = omega arith in
    let range : c.range.result ≡ (arc_value c.segment-item.result).range = cc in
    next_range arc_value c.args.segments.now c.loop-segment.segment-index c.segment-item.result within c.segment-item.is c.range.result range c.loop-segment.ranges c.add_last.new.ranges c.loop-segment.invariant c.in_ok-add_last.ensures
