-- What a set becomes by one more segment, and how many stay in a swap.
use Rattle.std.proofs.Common.{◌≡◌, ◌≤◌, ◌<◌, ◌+◌, ◌++◌, ◌∙◌, ℕ, zero, suc, Bool, true, false, cond, not, List, [], ◌∷◌, All, length, map, take, get_or, refl, ap, sym, subst, arith, length-append}
use Rattle.std.specs.Prelude.{Some, filter, slice_get}
use Rattle.std.proofs.lemmas.List.{get_or-map, length-map, map-append}
use Rattle.std.proofs.lemmas.List.Elements.{All-append}
use Rattle.std.proofs.lemmas.List.Filters.{length-filter_more}
use Rattle.std.proofs.lemmas.List.Quantifiers.{all_pairs_push}
use Rattle.std.proofs.lemmas.Option.{get_or_from_slice_get, slice_get_within}
use Rattle.range_list.specs.Ranges.{Interval, IsApart, IsBefore, IsRange}
use Rattle.run_history.specs.Sets.{Segment, is_inside, outside, swapped}
use Rattle.run_history.specs.Verdicts.{most_segments}
use Rattle.run_history.proofs.Ready.{length_placed}
use Rattle.segment_store.proofs.Swaps.{swap_in_history}
use Rattle.segment_store.specs.ReadySets.{IsReady, ranges_of, segment_of, swapped_in}
use Rattle.segment_store.specs.declared.parts.SegmentParts.{SegmentParts}
use Rattle.set_check.specs.Rising.{EndBy}

all_one : {X : Type 0} (P : X → Type 0) (x : X) → P x → All P (x ∷ [])
all_one P x p zero d lt = p
all_one P x p (suc k) d lt = absurd (omega arith)

-- ---- one more segment

module _ (segments : List SegmentParts) (next : SegmentParts) (day : ℕ) (before : EndBy segments day) (few : length segments < most_segments) (range : IsRange next.range) (later : day ≤ next.range.start) where
  apart : IsApart (ranges_of segments ++ next.range ∷ [])
  apart = (
    All-append IsRange (ranges_of segments) (next.range ∷ []) before.ready.apart.0 (all_one IsRange next.range range),
    all_pairs_push IsBefore (ranges_of segments) next.range before.ready.apart.1 (λ k d lt. ends k d lt),
  )
    where
      ends : (k : ℕ) (d : Interval) → k < length (ranges_of segments) → IsBefore (get_or (ranges_of segments) k d) next.range
      ends k d lt =
          let within : k < length segments = omega (arith, lt, length-map segments (λ (s : SegmentParts). s.range)) in
          let at = get_or-map (λ (s : SegmentParts). s.range) segments k next d within in
          let end = ap (λ (r : Interval). r.end) at in
          omega (arith, end, before.ended k next within, later)

  pub one_more : EndBy (segments ++ next ∷ []) next.range.end
  one_more = record {
    ready = record {
      few = omega (arith, length-append segments (next ∷ []));
      apart = subst IsApart (sym (map-append (λ (s : SegmentParts). s.range) segments (next ∷ []))) apart;
    };
    ended = All-append (λ (s : SegmentParts). s.range.end ≤ next.range.end) segments (next ∷ []) (λ k d lt. omega (arith, before.ended k d lt, later, range)) (all_one (λ (s : SegmentParts). s.range.end ≤ next.range.end) next (omega arith));
  }

pub nothing : (day : ℕ) → EndBy [] day
nothing day = record {
  ready = record { few = omega arith; apart = ((λ k d lt. absurd (omega arith)), (λ i j d lt within. absurd (omega arith))) };
  ended = λ k d lt. absurd (omega arith);
}

-- the segment from one day to before another, behind those that end by the first
pub added : (segments l : List SegmentParts) (next : SegmentParts) (range : Interval) (from to : ℕ)
    → EndBy segments from → length segments < most_segments → IsRange range → range.start ≡ from → range.end ≡ to → next.range ≡ range → l ≡ segments ++ next ∷ [] → EndBy l to
added segments l next range from to before few is start end own new =
    let first : next.range.start ≡ from = ap (λ (r : Interval). r.start) own ∙ start in
    let last : next.range.end ≡ to = ap (λ (r : Interval). r.end) own ∙ end in
    let more = one_more segments next from before few (subst IsRange (sym own) is) (omega (arith, first)) in
    subst (λ (day : ℕ). EndBy l day) last (subst (λ (k : List SegmentParts). EndBy k next.range.end) (sym new) more)

-- ---- how many stay

-- items that are picked by their names are as many as those names
length_named : (p : Segment → Bool) (segments : List SegmentParts) → length (filter p (map segment_of segments)) ≡ length (filter (λ s. p (segment_of s)) segments)
length_named p [] = refl
length_named p (s ∷ segments) = one (p (segment_of s)) (length_named p segments)
  where
    one : (b : Bool) → length (filter p (map segment_of segments)) ≡ length (filter (λ t. p (segment_of t)) segments)
        → length (cond b (segment_of s ∷ filter p (map segment_of segments)) (filter p (map segment_of segments))) ≡ length (cond b (s ∷ filter (λ t. p (segment_of t)) segments) (filter (λ t. p (segment_of t)) segments))
    one true e = omega (arith, e)
    one false e = e

pub length_swapped : (range : Interval) (new : SegmentParts) (segments : List SegmentParts) → range ≡ new.range → length (swapped_in new segments) ≡ length (filter (λ s. not (is_inside range s.range)) segments) + 1
length_swapped range new segments same =
    let named : List Segment = map segment_of segments in
    let history : length (map segment_of (swapped_in new segments)) ≡ length (swapped (segment_of new) named) = ap length (swap_in_history new segments) in
    let long = length-map (swapped_in new segments) segment_of in
    let placed = length_placed (segment_of new) (outside new.range named) in
    let out = length_named (λ s. not (is_inside new.range s.range)) segments in
    let there : length (swapped_in new segments) ≡ length (filter (λ s. not (is_inside new.range s.range)) segments) + 1 = omega (arith, history, long, placed, out) in
    subst (λ (r : Interval). length (swapped_in new segments) ≡ length (filter (λ s. not (is_inside r s.range)) segments) + 1) (sym same) there

-- one more segment that is counted where it passes
pub counted : (p : SegmentParts → Bool) (segments : List SegmentParts) (i n m : ℕ) (s : SegmentParts) → slice_get segments i ≡ Some s → n ≡ length (filter p (take i segments)) → n ≤ i → m ≡ cond (p s) 1 0 → m ≤ 1
    → (n + m ≡ length (filter p (take (i + 1) segments))) × (n + m ≤ i + 1)
counted p segments i n m s at before few one most =
    let within : i < length segments = slice_get_within segments i s at in
    let more = length-filter_more p segments i s within in
    let here : ◌≡◌ {A = ℕ} (cond (p (get_or segments i s)) 1 0) (cond (p s) 1 0) = ap {B = ℕ} (λ (t : SegmentParts). cond (p t) 1 0) (get_or_from_slice_get segments i s s at) in
    (omega (arith, before, more, here, one), omega arith)

pub one_or_none : (b : Bool) → ◌≡◌ {A = ℕ} (cond b 0 1) (cond (not b) 1 0)
one_or_none true = refl
one_or_none false = refl
