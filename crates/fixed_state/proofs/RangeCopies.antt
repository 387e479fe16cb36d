-- A list of ranges that is made once more, range by range.
use Rattle.std.proofs.Common.{◌≡◌, ℕ, zero, suc, ◌+◌, ◌<◌, ◌≤◌, Some, List, [], ◌∷◌, ◌++◌, length, take, get_or, insert, slice_get, refl, sym, ap, ◌∙◌, subst, inl, inr, arith}
use Rattle.std.proofs.lemmas.Bool.{cases_lt}
use Rattle.std.proofs.lemmas.List.{take_more}
use Rattle.std.proofs.lemmas.List.Edits.{get_or-insert_above, get_or-insert_at, length-insert}
use Rattle.std.proofs.lemmas.Option.{get_or_from_slice_get, slice_get_within}
use Rattle.range_list.specs.Ranges.{Interval, IsApart, IsFree, IsRange, Overlaps}
use Rattle.run_history.proofs.Lists.{Every}

tail_apart : (x : Interval) (rs : List Interval) → IsApart (x ∷ rs) → IsApart rs
tail_apart x rs h = ((λ k d lt. h.0 (suc k) d (omega arith)), (λ i j d lt within. h.1 (suc i) (suc j) d (omega arith) (omega arith)))

-- the ranges before a place end before the range at it starts
before_all : (rs : List Interval) (k : ℕ) (r : Interval) → slice_get rs k ≡ Some r → IsApart rs → Every (λ s. s.end ≤ r.start) (take k rs)
before_all [] k r e h = cc
before_all (x ∷ rs) zero r e h = tt
before_all (x ∷ rs) (suc k) r e h =
    let within : k < length rs = slice_get_within rs k r e in
    let is : get_or rs k r ≡ r = get_or_from_slice_get rs k r r e in
    let first : x.end ≤ (get_or rs k r).start = h.1 0 (suc k) r (omega arith) (omega arith) in
    (subst (λ (s : Interval). x.end ≤ s.start) is first, before_all rs k r e (tail_apart x rs h))

apart_range : (rs : List Interval) (k : ℕ) (r : Interval) → slice_get rs k ≡ Some r → IsApart rs → IsRange r
apart_range rs k r e h = subst IsRange (get_or_from_slice_get rs k r r e) (h.0 k r (slice_get_within rs k r e))

ended : (xs : List Interval) (r : Interval) → Every (λ s. s.end ≤ r.start) xs → (k : ℕ) (d : Interval) → k < length xs → (get_or xs k d).end ≤ r.start
ended [] r h k d lt = absurd (omega arith)
ended (x ∷ xs) r h zero d lt = h.0
ended (x ∷ xs) r h (suc k) d lt = ended xs r h.1 k d (omega arith)

-- so it overlaps none of them
pub copied_free : (rs : List Interval) (k : ℕ) (r : Interval) → slice_get rs k ≡ Some r → IsApart rs → IsFree (take k rs) r
copied_free rs k r e h = λ j d lt. λ (o : Overlaps (get_or (take k rs) j d) r).
    let le = ended (take k rs) r (before_all rs k r e h) j d lt in
    omega (arith, le, o.1.0.1, o.1.1.0)

-- and its place is the last
last_place : (xs : List Interval) (i : ℕ) (r : Interval) → i ≤ length xs → IsApart (insert xs i r) → Every (λ s. s.end ≤ r.start) xs → IsRange r → i ≡ length xs
last_place xs i r le h before range =
    elim (cases_lt i (length xs)) [
      | inl lt ↦
          let long : length (insert xs i r) ≡ length xs + 1 = length-insert xs i r le in
          let at : get_or (insert xs i r) i r ≡ r = get_or-insert_at xs i r r le in
          let above : get_or (insert xs i r) (i + 1) r ≡ get_or xs i r = get_or-insert_above xs i r r i (omega arith) le in
          let pair = h.1 i (i + 1) r (omega arith) (omega arith) in
          let real : IsRange (get_or (insert xs i r) (i + 1) r) = h.0 (i + 1) r (omega arith) in
          let early = ended xs r before i r lt in
          absurd (omega (arith, pair, ap (λ (s : Interval). s.end) at, ap (λ (s : Interval). s.start) above, ap (λ (s : Interval). s.end) above, real, early, range))
      | inr ge ↦ omega (arith, ge, le)
    ]

insert_last : {X : Type 0} (xs : List X) (x : X) → insert xs (length xs) x ≡ xs ++ x ∷ []
insert_last [] x = refl
insert_last (y ∷ xs) x = ap (λ l. y ∷ l) (insert_last xs x)

pub copied_more : (rs copied new : List Interval) (k i : ℕ) (r : Interval) → slice_get rs k ≡ Some r → IsApart rs → copied ≡ take k rs → i ≤ length copied → new ≡ insert copied i r → IsApart new → new ≡ take (k + 1) rs
copied_more rs copied new k i r e h same le is apart =
    let before = subst (Every (λ (s : Interval). s.end ≤ r.start)) (sym same) (before_all rs k r e h) in
    let place = last_place copied i r le (subst IsApart is apart) before (apart_range rs k r e h) in
    is ∙ (ap (λ (n : ℕ). insert copied n r) place ∙ (insert_last copied r ∙ (ap (λ (l : List Interval). l ++ r ∷ []) same
    ∙ (ap (λ (x : Interval). take k rs ++ x ∷ []) (sym (get_or_from_slice_get rs k r r e)) ∙ sym (take_more rs k r (slice_get_within rs k r e))))))
