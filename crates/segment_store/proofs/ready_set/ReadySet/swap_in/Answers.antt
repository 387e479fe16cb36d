use Rattle.std.proofs.Common.{◌≡◌, ◌∙◌, ap, map, subst, sym}
use Rattle.std.specs.Arc.{arc_value}
use Rattle.range_list.specs.Ranges.{IsRange}
use Rattle.segment_store.specs.ReadySets.{IsReady, Ready, segment_of, swapped_in}
use Rattle.segment_store.specs.declared.parts.SegmentParts.{SegmentParts}
use Rattle.segment_store.proofs.Swaps.{swap_in_history, swap_keeps_ready}
use Rattle.segment_store.proofs.ready_set.ReadySet.swap_in.Goals as goal

pub set_of-requires : goal.set_of-requires
set_of-requires g c =
    let old : map arc_value c.self.inside.segments.items ≡ c.args.self.now.segments = ap (λ r. r.segments) c.self.view_is in
    let new : arc_value c.in_ok-new.new ≡ c.args.segment = c.in_ok-new.ensures.ok in
    let list : map arc_value c.in_ok-list.list.items ≡ swapped_in c.args.segment c.args.self.now.segments = c.in_ok-list.ensures.list ∙ ap (λ s. swapped_in s (map arc_value c.as_slice.result.now)) new ∙ ap (λ l. swapped_in c.args.segment (map arc_value l)) c.as_slice.ensures.value ∙ ap (swapped_in c.args.segment) old in
    let range : IsRange c.args.segment.range = subst (λ (s : SegmentParts). IsRange s.range) new c.in_ok-list.ensures.range in
    subst IsReady (sym list) (swap_keeps_ready c.args.segment c.args.self.now.segments range (subst IsReady old c.self.invariant.0) c.requires.replaced c.requires.few)

pub returns-clause-history : goal.returns-clause-history
returns-clause-history g c =
    let old : map arc_value c.self.inside.segments.items ≡ c.args.self.now.segments = ap (λ r. r.segments) c.self.view_is in
    let new : arc_value c.in_ok-new.new ≡ c.args.segment = c.in_ok-new.ensures.ok in
    let list : map arc_value c.in_ok-list.list.items ≡ swapped_in c.args.segment c.args.self.now.segments = c.in_ok-list.ensures.list ∙ ap (λ s. swapped_in s (map arc_value c.as_slice.result.now)) new ∙ ap (λ l. swapped_in c.args.segment (map arc_value l)) c.as_slice.ensures.value ∙ ap (swapped_in c.args.segment) old in
    ap (λ (r : Ready). map segment_of r.segments) c.in_ok-set.ensures ∙ ap (map segment_of) list ∙ swap_in_history c.args.segment c.args.self.now.segments
