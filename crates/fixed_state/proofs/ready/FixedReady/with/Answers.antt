use Rattle.std.proofs.Common.{◌+◌, List, length, map, insert, sym, ap, ◌∙◌, subst, arith}
use Rattle.std.proofs.lemmas.List.{length-map}
use Rattle.std.specs.Arc.{arc_value}
use Rattle.range_list.specs.Ranges.{Interval, IsFree}
use Rattle.run_history.specs.Invariants.{ranges_of}
use Rattle.run_state.specs.Numbered.{after_swap}
use Rattle.fixed_state.specs.Ready.{IsPlaced, ReadyModel, as_segment, ready_of}
use Rattle.fixed_state.proofs.NextSets.{next_placed, next_ranges, next_set, ranges_count}
use Rattle.fixed_state.proofs.ready.FixedReady.with.Goals as goal

pub insert-requires : goal.insert-requires
insert-requires c = subst (λ (rs : List Interval). IsFree rs c.args.segment.range) (sym (c.in_ok-ranges.ensures ∙ (c.self.invariant ∙ ap (λ (m : ReadyModel). ranges_of m.set.segments) c.self.view_is))) c.requires.free

pub with_segment-requires : goal.with_segment-requires
with_segment-requires c =
    let count = ranges_count (map arc_value c.self.inside.segments.items) c.in_ok-ranges.ranges c.self.inside.version (c.in_ok-ranges.ensures ∙ c.self.invariant) in
    omega (arith, c.in_ok-place.ensures.place, count, length-map c.self.inside.segments.items arc_value, ap length c.as_slice.ensures.value)

pub overflow_add-result : goal.overflow_add-result
overflow_add-result c = omega (arith, ap (λ (m : ReadyModel). m.set.version) c.self.view_is, c.requires.version)

pub returns-clause-set : goal.returns-clause-set
returns-clause-set c =
    let is = c.in_ok-segments.ensures ∙ ap (λ l. insert (map arc_value l) c.in_ok-place.place c.args.segment) c.as_slice.ensures.value in
    next_set (map arc_value c.self.inside.segments.items) (map arc_value c.in_ok-segments.segments.items) c.in_ok-place.place c.self.inside.version c.args.segment is c.in_ok-ranges.ranges c.insert.new.self (c.in_ok-ranges.ensures ∙ c.self.invariant)
    c.in_ok-place.ensures.inserted c.in_ok-place.ensures.place c.in_ok-place.ensures.apart
    ∙ ap (λ (m : ReadyModel). after_swap (as_segment c.args.segment) m.set) c.self.view_is

pub returns-clause-placed : goal.returns-clause-placed
returns-clause-placed c =
    let is = c.in_ok-segments.ensures ∙ ap (λ l. insert (map arc_value l) c.in_ok-place.place c.args.segment) c.as_slice.ensures.value in
    subst (λ (m : ReadyModel). IsPlaced (as_segment c.args.segment) m.set.segments (ready_of (map arc_value c.in_ok-segments.segments.items) (c.self.inside.version + 1)).set.segments c.args.segment.cells m.cells (ready_of (map arc_value c.in_ok-segments.segments.items) (c.self.inside.version + 1)).cells) c.self.view_is
    (next_placed (map arc_value c.self.inside.segments.items) (map arc_value c.in_ok-segments.segments.items) c.in_ok-place.place c.self.inside.version c.args.segment is)

pub invariant_of-result : goal.invariant_of-result
invariant_of-result c =
    let is = c.in_ok-segments.ensures ∙ ap (λ l. insert (map arc_value l) c.in_ok-place.place c.args.segment) c.as_slice.ensures.value in
    next_ranges (map arc_value c.self.inside.segments.items) (map arc_value c.in_ok-segments.segments.items) c.in_ok-place.place c.self.inside.version c.args.segment is c.in_ok-ranges.ranges c.insert.new.self (c.in_ok-ranges.ensures ∙ c.self.invariant)
    c.in_ok-place.ensures.inserted (c.self.inside.version + 1)
