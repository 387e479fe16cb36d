use Rattle.std.proofs.Common.{◌<◌, arith, length, map, refl}
use Rattle.std.specs.Arc.{arc_value}
use Rattle.segment_store.proofs.Lists.{appended_more}
use Rattle.segment_store.proofs.staying.add_all.Goals as goal

pub loop-segment-preserved : goal.loop-segment-preserved
loop-segment-preserved g c =
    let within : c.loop-segment.segment-index < length c.args.segments.now = omega arith in
    appended_more arc_value (map arc_value c.args.kept.now.items) c.args.segments.now c.loop-segment.segment-index c.segment-item.result within c.segment-item.is
    (map arc_value c.loop-segment.kept.items) (map arc_value c.add_if.new.kept.items) c.loop-segment.invariant (c.in_ok-add_if.ensures.stays refl)
