use Rattle.std.proofs.Common.{◌<◌, ap, arith, length}
use Rattle.run_history.specs.Verdicts.{most_segments}
use Rattle.segment_store.specs.declared.parts.SegmentParts.{SegmentParts}
use Rattle.set_check.proofs.SetFacts.{added}
use Rattle.set_check.proofs.sets.add_segment.Goals as goal

pub returns : goal.returns
returns c =
    let few : length c.args.segments.now.items < most_segments = omega (arith, c.args.segments.now.ok.0, c.len.ensures, c.if-len-ge-MOST.false) in
    let range = c.in_ok-range.ensures in
    added c.args.segments.now.items c.push.new.self.items c.in_ok-next.next c.in_ok-range.range c.args.from c.args.to c.requires few range.2 range.0 range.1
    (ap (λ (s : SegmentParts). s.range) c.in_ok-next.ensures) c.in_ok-push.ensures.items
