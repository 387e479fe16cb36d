-- A ready set with a segment more.
use Rattle.std.proofs.Common.{◌≡◌, ℕ, ◌+◌, ◌≤◌, List, length, map, insert, sym, ap, ◌∙◌, subst, arith}
use Rattle.std.proofs.lemmas.List.{length-map}
use Rattle.range_list.specs.Ranges.{Interval, IsApart}
use Rattle.run_history.specs.Invariants.{ranges_of}
use Rattle.run_history.specs.Sets.{ReadySet, Segment}
use Rattle.run_state.specs.Numbered.{NumberedSet, after_swap}
use Rattle.fixed_state.specs.Ready.{IsPlaced, as_segment, ready_of}
use Rattle.fixed_state.specs.declared.ready.KeptSegment.{KeptSegment}
use Rattle.fixed_state.proofs.Swaps.{map_insert, swapped_is}

-- there is a range for each segment
pub ranges_count : (kept : List KeptSegment) (ranges : List Interval) (version : ℕ) → ranges ≡ ranges_of (ready_of kept version).set.segments → length ranges ≡ length kept
ranges_count kept ranges version h = ap length h ∙ (length-map (map as_segment kept) (λ (s : Segment). s.range) ∙ length-map kept as_segment)

module _ (old new : List KeptSegment) (place version : ℕ) (segment : KeptSegment) (is : new ≡ insert old place segment) where
  segments_are : (ready_of new version).set.segments ≡ insert (ready_of old version).set.segments place (as_segment segment)
  segments_are = ap (map as_segment) is ∙ map_insert as_segment old place segment

  pub next_placed : IsPlaced (as_segment segment) (ready_of old version).set.segments (ready_of new version).set.segments segment.cells (ready_of old version).cells (ready_of new version).cells
  next_placed = record {
    place = place;
    segments = segments_are;
    cells = ap (map (λ (kept : KeptSegment). kept.cells)) is ∙ map_insert (λ (kept : KeptSegment). kept.cells) old place segment;
  }

  module _ (ranges next : List Interval) (here : ranges ≡ ranges_of (ready_of old version).set.segments) (inserted : next ≡ insert ranges place segment.range) where
    -- the ranges of the next set
    pub next_ranges : (later : ℕ) → next ≡ ranges_of (ready_of new later).set.segments
    next_ranges later =
        inserted ∙ (ap (λ (rs : List Interval). insert rs place segment.range) here
        ∙ sym (ap ranges_of segments_are ∙ map_insert (λ (s : Segment). s.range) (map as_segment old) place (as_segment segment)))

    -- it is that of a swap
    pub next_set : place ≤ length ranges → IsApart next → (ready_of new (version + 1)).set ≡ after_swap (as_segment segment) (ready_of old version).set
    next_set le apart =
        let count : length ranges ≡ length (map as_segment old) = ap length here ∙ length-map (map as_segment old) (λ (s : Segment). s.range) in
        let stays = subst IsApart (inserted ∙ ap (λ (rs : List Interval). insert rs place segment.range) here) apart in
        let set : ReadySet → NumberedSet = λ segments. record { segments = segments; version = version + 1 } in
        ap set (segments_are ∙ sym (swapped_is (map as_segment old) place (as_segment segment) (omega (arith, le, count)) stays))
