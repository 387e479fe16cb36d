use Rattle.std.proofs.Common.{◌≡◌, ◌<◌, ◌∙◌, arith, length, map}
use Rattle.std.specs.Arc.{arc_value}
use Rattle.segment_store.specs.ReadySets.{stays}
use Rattle.segment_store.proofs.Lists.{kept_more}
use Rattle.segment_store.proofs.staying.add_staying.Goals as goal

pub loop-segment-preserved : goal.loop-segment-preserved
loop-segment-preserved g c =
    let within : c.loop-segment.segment-index < length c.args.segments.now = omega arith in
    let test : c.stays_at.result ≡ stays c.args.side c.args.range (arc_value c.segment-item.result) = cc in
    kept_more arc_value (map arc_value c.args.kept.now.items) c.args.segments.now c.loop-segment.segment-index c.segment-item.result within c.segment-item.is
    (stays c.args.side c.args.range) (map arc_value c.loop-segment.kept.items) (map arc_value c.add_if.new.kept.items) c.loop-segment.invariant
    (λ e. c.in_ok-add_if.ensures.stays (test ∙ e)) (λ e. c.in_ok-add_if.ensures.goes (test ∙ e))
