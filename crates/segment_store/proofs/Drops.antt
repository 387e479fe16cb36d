-- Drops, as a history sees them.
use Rattle.std.proofs.Common.{◌≡◌, ◌≤◌, ◌∙◌, ◌&&◌, ◌==◌, ℕ, zero, suc, true, not, List, [], ◌∷◌, map, refl, ap, sym, subst, arith}
use Rattle.std.specs.Prelude.{Some, remove, slice_get}
use Rattle.std.proofs.lemmas.Bool.{and_from, eq-eqb, ne_eqb}
use Rattle.range_list.specs.Ranges.{Interval, IsApart, IsRange}
use Rattle.run_history.specs.Sets.{Segment, dropped, is_same_range}
use Rattle.run_history.proofs.Lists.{Every, cond_at_false, cond_at_true, every_map, filter_all}
use Rattle.run_history.proofs.Ready.{AreApart, from_apart}
use Rattle.segment_store.proofs.Swaps.{ranges_in_history}
use Rattle.segment_store.specs.ReadySets.{ranges_of, segment_of}
use Rattle.segment_store.specs.declared.parts.SegmentParts.{SegmentParts}

-- of two ranges that start on two days neither is the other
other_start : (r s : Interval) → (r.start ≡ s.start → ⊥) → not (is_same_range r s) ≡ true
other_start r s differ = ap (λ b. not (b && (r.end == s.end))) (ne_eqb r.start s.start differ)

-- the first segment of a set goes where its range is dropped
first_goes : (s : Segment) (rest : List Segment) → IsRange s.range → Every (λ t. s.range.end ≤ t.range.start) rest → dropped s.range (s ∷ rest) ≡ rest
first_goes s rest range later =
    let same : is_same_range s.range s.range ≡ true = and_from (s.range.start == s.range.start) (s.range.end == s.range.end) (eq-eqb s.range.start s.range.start refl) (eq-eqb s.range.end s.range.end refl) in
    cond_at_false (not (is_same_range s.range s.range)) (s ∷ dropped s.range rest) (dropped s.range rest) (ap not same)
    ∙ filter_all (λ t. not (is_same_range s.range t.range)) rest (every_map (λ t. s.range.end ≤ t.range.start) (λ t. not (is_same_range s.range t.range) ≡ true) rest (λ t le. other_start s.range t.range (λ e. omega (arith, e, le, range))) later)

there : (P : Segment → Type 0) (segments : List SegmentParts) (i : ℕ) (s : SegmentParts) → Every P (map segment_of segments) → slice_get segments i ≡ Some s → P (segment_of s)
there P [] i s h at = cc
there P (t ∷ segments) zero s h at = let same : t ≡ s = cc in subst (λ (u : SegmentParts). P (segment_of u)) same h.0
there P (t ∷ segments) (suc i) s h at = there P segments i s h.1 at

one_goes : (segments : List SegmentParts) (i : ℕ) (gone : SegmentParts) → AreApart (map segment_of segments) → slice_get segments i ≡ Some gone → map segment_of (remove segments i) ≡ dropped gone.range (map segment_of segments)
one_goes [] i gone h at = cc
one_goes (s ∷ segments) zero gone h at =
    let same : s ≡ gone = cc in
    subst (λ (u : SegmentParts). map segment_of segments ≡ dropped u.range (map segment_of (s ∷ segments))) same (sym (first_goes (segment_of s) (map segment_of segments) h.0 h.1))
one_goes (s ∷ segments) (suc i) gone h at =
    let later : s.range.end ≤ gone.range.start = there (λ t. s.range.end ≤ t.range.start) segments i gone h.1 at in
    let stays : not (is_same_range gone.range s.range) ≡ true = other_start gone.range s.range (λ e. omega (arith, e, later, h.0)) in
    ap (λ l. segment_of s ∷ l) (one_goes segments i gone h.2 at)
    ∙ sym (cond_at_true (not (is_same_range gone.range s.range)) (segment_of s ∷ dropped gone.range (map segment_of segments)) (dropped gone.range (map segment_of segments)) stays)

-- the next set of a drop is that of the history
pub drop_in_history : (segments : List SegmentParts) (i : ℕ) (gone : SegmentParts) → IsApart (ranges_of segments) → slice_get segments i ≡ Some gone → map segment_of (remove segments i) ≡ dropped gone.range (map segment_of segments)
drop_in_history segments i gone apart at = one_goes segments i gone (from_apart (map segment_of segments) (subst IsApart (sym (ranges_in_history segments)) apart)) at
