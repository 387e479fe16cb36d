use Rattle.std.proofs.Common.{◌≡◌, ap, arith, sym}
use Rattle.segment_store.specs.declared.parts.SegmentParts.{SegmentParts}
use Rattle.set_check.proofs.SetFacts.{length_swapped}
use Rattle.set_check.proofs.sets.swapped.Goals as goal

pub swap_in-requires-clause-few : goal.swap_in-requires-clause-few
swap_in-requires-clause-few c =
    let own : c.args.range ≡ c.in_ok-segment.field-0.range = sym (ap (λ (s : SegmentParts). s.range) c.in_ok-segment.ensures) in
    omega (arith, length_swapped c.args.range c.in_ok-segment.field-0 c.args.set.now.segments own, c.staying.ensures, c.if-staying-ge-MOST.false)
