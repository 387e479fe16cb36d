-- Swaps, as a history sees them.
use Rattle.std.proofs.Common.{◌++◌, ◌∙◌, Bool, true, false, cond, not, ◌&&◌, suc, ℕ, ◌≡◌, ◌≤◌, ◌<◌, ◌+◌, List, [], ◌∷◌, length, map, take, drop, refl, ap, sym, subst, arith}
use Rattle.std.specs.Prelude.{filter, nat_lt, remove}
use Rattle.std.proofs.lemmas.List.{append_assoc, drop-map, length-map, map-append, take-map}
use Rattle.std.proofs.lemmas.List.Edits.{length-remove}
use Rattle.std.proofs.lemmas.List.Elements.{All-append, All-drop, All-take, recursion_from_All}
use Rattle.std.proofs.lemmas.List.Quantifiers.{all_pairs_remove}
use Rattle.range_list.specs.Ranges.{Interval, IsApart, IsBefore, IsRange}
use Rattle.run_history.specs.Invariants.{ranges_of as history_ranges}
use Rattle.run_history.specs.Sets.{Segment, is_inside, is_overlap, swapped}
use Rattle.run_history.specs.Verdicts.{most_segments}
use Rattle.run_history.proofs.Ready.{OnlyInside, from_apart, swapped_apart, to_apart}
use Rattle.segment_store.specs.ReadySets.{AreReplaced, IsReady, ranges_of, segment_of, stays, swapped_in}
use Rattle.segment_store.specs.declared.parts.SegmentParts.{SegmentParts}
use Rattle.segment_store.specs.declared.staying.Side.TheVariants.{Before, Behind}

-- items that are named after they were picked are picked by their names
filter_named : {X Y : Type 0} (name : X → Y) (p : Y → Bool) (xs : List X) → map name (filter (λ x. p (name x)) xs) ≡ filter p (map name xs)
filter_named name p [] = refl
filter_named name p (x ∷ xs) = one (p (name x)) (filter_named name p xs)
  where
    one : (b : Bool) → map name (filter (λ y. p (name y)) xs) ≡ filter p (map name xs) → map name (cond b (x ∷ filter (λ y. p (name y)) xs) (filter (λ y. p (name y)) xs)) ≡ cond b (name x ∷ filter p (map name xs)) (filter p (map name xs))
    one true rest = ap (λ l. name x ∷ l) rest
    one false rest = rest

-- items that are picked twice pass both tests
pub filter_both : {X : Type 0} (p q : X → Bool) (xs : List X) → filter q (filter p xs) ≡ filter (λ x. p x && q x) xs
filter_both p q [] = refl
filter_both p q (x ∷ xs) = one (p x) (filter_both p q xs)
  where
    two : (c : Bool) → filter q (filter p xs) ≡ filter (λ y. p y && q y) xs → cond c (x ∷ filter q (filter p xs)) (filter q (filter p xs)) ≡ cond c (x ∷ filter (λ y. p y && q y) xs) (filter (λ y. p y && q y) xs)
    two true rest = ap (λ l. x ∷ l) rest
    two false rest = rest

    one : (b : Bool) → filter q (filter p xs) ≡ filter (λ y. p y && q y) xs → filter q (cond b (x ∷ filter p xs) (filter p xs)) ≡ cond (b && q x) (x ∷ filter (λ y. p y && q y) xs) (filter (λ y. p y && q y) xs)
    one true rest = two (q x) rest
    one false rest = rest

module _ (new : SegmentParts) (segments : List SegmentParts) where
  abbrev named : List Segment
  named = map segment_of segments

  abbrev is_out : Segment → Bool
  is_out s = not (is_inside new.range s.range)

  abbrev is_early : Segment → Bool
  is_early s = nat_lt s.range.start new.range.start

  before : map segment_of (filter (stays Before new.range) segments) ≡ filter is_early (filter is_out named)
  before = filter_named segment_of (λ s. is_out s && is_early s) segments ∙ sym (filter_both is_out is_early named)

  behind : map segment_of (filter (stays Behind new.range) segments) ≡ filter (λ s. not (is_early s)) (filter is_out named)
  behind = filter_named segment_of (λ s. is_out s && not (is_early s)) segments ∙ sym (filter_both is_out (λ s. not (is_early s)) named)

  -- the next set of a swap is that of the history
  pub swap_in_history : map segment_of (swapped_in new segments) ≡ swapped (segment_of new) named
  swap_in_history =
      map-append segment_of (filter (stays Before new.range) segments) (new ∷ filter (stays Behind new.range) segments)
      ∙ ap (λ l. l ++ segment_of new ∷ map segment_of (filter (stays Behind new.range) segments)) before
      ∙ ap (λ l. filter is_early (filter is_out named) ++ segment_of new ∷ l) behind

-- a history sees the same ranges
pub ranges_in_history : (segments : List SegmentParts) → history_ranges (map segment_of segments) ≡ ranges_of segments
ranges_in_history [] = refl
ranges_in_history (s ∷ segments) = ap (λ l. s.range ∷ l) (ranges_in_history segments)

only_inside : (range : Interval) (segments : List SegmentParts) → AreReplaced range segments → OnlyInside range (map segment_of segments)
only_inside range [] h = tt
only_inside range (s ∷ segments) h = let all = recursion_from_All (λ (t : SegmentParts). is_overlap t.range range ≡ true → is_inside range t.range ≡ true) (s ∷ segments) h in (all.0, only_inside range segments (λ k d within. h (suc k) d (omega arith)))

-- and after a swap the ranges are apart
pub swap_keeps_apart : (new : SegmentParts) (segments : List SegmentParts) → IsRange new.range → IsApart (ranges_of segments) → AreReplaced new.range segments → IsApart (ranges_of (swapped_in new segments))
swap_keeps_apart new segments range apart replaced =
    let old : IsApart (history_ranges (map segment_of segments)) = subst IsApart (sym (ranges_in_history segments)) apart in
    let next = to_apart (swapped (segment_of new) (map segment_of segments)) (swapped_apart (segment_of new) (map segment_of segments) (from_apart (map segment_of segments) old) range (only_inside new.range segments replaced)) in
    subst IsApart (ap history_ranges (sym (swap_in_history new segments)) ∙ ranges_in_history (swapped_in new segments)) next

-- ---- what is put together

pub swapped_from : (new : SegmentParts) (range : Interval) (segments l0 l1 l2 l3 : List SegmentParts) → range ≡ new.range → l0 ≡ [] → l1 ≡ l0 ++ filter (stays Before range) segments → l2 ≡ l1 ++ new ∷ [] → l3 ≡ l2 ++ filter (stays Behind range) segments → l3 ≡ swapped_in new segments
swapped_from new range segments l0 l1 l2 l3 r z a b c =
    c ∙ ap (λ l. l ++ filter (stays Behind range) segments) (b ∙ ap (λ l. l ++ new ∷ []) (a ∙ ap (λ l. l ++ filter (stays Before range) segments) z))
    ∙ append_assoc (filter (stays Before range) segments) (new ∷ []) (filter (stays Behind range) segments)
    ∙ ap (λ (t : Interval). filter (stays Before t) segments ++ new ∷ filter (stays Behind t) segments) r

pub removed_from : {X : Type 0} (f : X → SegmentParts) (xs : List X) (i : ℕ) (a b : List X) (l0 l1 l2 : List SegmentParts) → l0 ≡ [] → a ≡ take i xs → b ≡ drop (i + 1) xs → l1 ≡ l0 ++ map f a → l2 ≡ l1 ++ map f b → l2 ≡ remove (map f xs) i
removed_from f xs i a b l0 l1 l2 z front back one two =
    let next : i + 1 ≡ suc i = omega arith in
    two ∙ ap (λ l. l ++ map f b) (one ∙ ap (λ l. l ++ map f a) z ∙ ap (map f) front ∙ sym (take-map f i xs))
    ∙ ap (λ l. take i (map f xs) ++ l) (ap (map f) (back ∙ ap (λ n. drop n xs) next) ∙ sym (drop-map f (suc i) xs))

-- ---- ready sets

pub swap_keeps_ready : (new : SegmentParts) (segments : List SegmentParts) → IsRange new.range → IsReady segments → AreReplaced new.range segments → length (swapped_in new segments) ≤ most_segments → IsReady (swapped_in new segments)
swap_keeps_ready new segments range h replaced few = record { few = few; apart = swap_keeps_apart new segments range h.apart replaced }

-- the ranges without that of a segment
ranges-remove : (segments : List SegmentParts) (i : ℕ) → ranges_of (remove segments i) ≡ remove (ranges_of segments) i
ranges-remove segments i =
    map-append (λ (t : SegmentParts). t.range) (take i segments) (drop (suc i) segments)
    ∙ ap (λ l. l ++ ranges_of (drop (suc i) segments)) (sym (take-map (λ (t : SegmentParts). t.range) i segments))
    ∙ ap (λ l. take i (ranges_of segments) ++ l) (sym (drop-map (λ (t : SegmentParts). t.range) (suc i) segments))

remove_keeps_apart : (ranges : List Interval) (i : ℕ) → i < length ranges → IsApart ranges → IsApart (remove ranges i)
remove_keeps_apart ranges i within h = (
  All-append IsRange (take i ranges) (drop (suc i) ranges) (All-take IsRange i ranges h.0) (All-drop IsRange (suc i) ranges h.0),
  all_pairs_remove IsBefore ranges i within h.1,
)

-- a set without one of its segments
pub drop_keeps_ready : (segments : List SegmentParts) (i : ℕ) → i < length segments → IsReady segments → IsReady (remove segments i)
drop_keeps_ready segments i within h =
    let long : i < length (ranges_of segments) = omega (arith, within, length-map segments (λ (t : SegmentParts). t.range)) in
    record {
      few = omega (arith, h.few, length-remove segments i within);
      apart = subst IsApart (sym (ranges-remove segments i)) (remove_keeps_apart (ranges_of segments) i long h.apart);
    }
