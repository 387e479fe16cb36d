-- How the ranges of a list cover a range.
use Rattle.std.proofs.Common.{◌≡◌, ◌≢◌, ◌≤◌, ◌<◌, ◌+◌, ◌-◌, ◌↔◌, ℕ, zero, suc, inl, inr, refl, sym, ap, subst, ◌∙◌, arith, List, ◌∷◌, length, get_or, take, drop, drop-cons, add-one}
use Rattle.std.specs.Prelude.{All, Any}
use Rattle.std.proofs.lemmas.Bool.{cases_lt}
use Rattle.std.proofs.lemmas.List.{get_or_default}
use Rattle.range_list.specs.Ranges.{Interval, IsRange, Holds, IsApart, EndToEnd, AreJoined, IsOffBounds, IsOnBounds, IsFirstFreeDay, Fills}
use Rattle.range_list.specs.Covers.{Covers}
use Rattle.range_list.specs.declared.cover.Cover.{Cover}
use Rattle.range_list.specs.declared.cover.Cover.TheVariants.{NotOnBounds, Hole, Parts}
use Rattle.range_list.proofs.Apart.{ends_rise, starts_rise, read_is}

abbrev none : Interval
none = record { start = 0; end = 0 }

-- the ranges from i on, so many and one more
one_more : (rs : List Interval) (i n : ℕ) → i < length rs → take (suc n) (drop i rs) ≡ get_or rs i none ∷ take n (drop (suc i) rs)
one_more rs i n in_list = ap (take (suc n)) (drop-cons rs i none in_list)

-- ranges that are joined fill the days from the start of the first to the end of the last
pub end_to_end : (rs : List Interval) (i n : ℕ) → i + n < length rs → AreJoined rs i (i + n) → EndToEnd (get_or rs i none).start (get_or rs (i + n) none).end (take (suc n) (drop i rs))
end_to_end rs i zero in_list joined =
    let here : i + 0 ≡ i = omega arith in
    rw (one_more rs i 0 (omega arith), here) (refl, refl)
end_to_end rs i (suc n) in_list joined =
    let there : i + suc n ≡ suc i + n = omega arith in
    let rest : AreJoined rs (suc i) (suc i + n) = λ k d le lt. joined k d (omega arith) (omega arith) in
    let next : (get_or rs i none).end ≡ (get_or rs (suc i) none).start = rw add-one at (joined i none (omega arith) (omega arith)) in
    rw (one_more rs i (suc n) (omega arith), there, next) (refl, end_to_end rs (suc i) n (omega arith) rest)

-- the last of ranges end to end ends at the other day
last_end : (rs : List Interval) (i n from to : ℕ) → i + n < length rs → EndToEnd from to (take (suc n) (drop i rs)) → (get_or rs (i + n) none).end ≡ to
last_end rs i zero from to in_list h =
    let here : i + 0 ≡ i = omega arith in
    let filled = rw (one_more rs i 0 (omega arith)) at h in
    rw here filled.1
last_end rs i (suc n) from to in_list h =
    let there : i + suc n ≡ suc i + n = omega arith in
    let filled = rw (one_more rs i (suc n) (omega arith)) at h in
    rw there (last_end rs (suc i) n (get_or rs i none).end to (omega arith) filled.1)

first_start : (rs : List Interval) (i n from to : ℕ) → i + n < length rs → EndToEnd from to (take (suc n) (drop i rs)) → (get_or rs i none).start ≡ from
first_start rs i n from to in_list h = (rw (one_more rs i n (omega arith)) at h).0

-- some range of the list, by its place
pub at_place : (P : Interval → Type 0) (rs : List Interval) (i : ℕ) → i < length rs → P (get_or rs i none) → Any P rs
at_place P rs i in_list h = (i, get_or rs i none, in_list, get_or_default rs i (get_or rs i none) none in_list, h)

-- and each day between the two lies in one of them
held : (rs : List Interval) (n i from to : ℕ) → i + n ≤ length rs → EndToEnd from to (take n (drop i rs)) → (day : ℕ) → from ≤ day → day < to → Any (λ s. Holds s day) rs
held rs zero i from to in_list h day low high = absurd (omega (arith, h))
held rs (suc n) i from to in_list h day low high =
    let filled = rw (one_more rs i n (omega arith)) at h in
    elim (cases_lt day (get_or rs i none).end) [
      | inl lt ↦ at_place (λ s. Holds s day) rs i (omega arith) (omega (arith, filled.0), lt)
      | inr le ↦ held rs n (suc i) (get_or rs i none).end to (omega arith) filled.1 day le high
    ]

-- ---- places

-- a list has one range at most that starts on a day
one_start : (rs : List Interval) → IsApart rs → (i j : ℕ) → i < length rs → j < length rs → (get_or rs i none).start ≡ (get_or rs j none).start → i ≡ j
one_start rs h i j i_in j_in same =
    elim (cases_lt i j) [
      | inl lt ↦ absurd (omega (arith, same, h.0 i none i_in, h.1 i j none lt j_in))
      | inr le ↦ elim (cases_lt j i) [
        | inl gt ↦ absurd (omega (arith, same, h.0 j none j_in, h.1 j i none gt i_in))
        | inr ge ↦ omega arith
      ]
    ]

one_end : (rs : List Interval) → IsApart rs → (i j : ℕ) → i < length rs → j < length rs → (get_or rs i none).end ≡ (get_or rs j none).end → i ≡ j
one_end rs h i j i_in j_in same =
    elim (cases_lt i j) [
      | inl lt ↦ absurd (omega (arith, same, h.0 j none j_in, h.1 i j none lt j_in))
      | inr le ↦ elim (cases_lt j i) [
        | inl gt ↦ absurd (omega (arith, same, h.0 i none i_in, h.1 j i none gt i_in))
        | inr ge ↦ omega arith
      ]
    ]

-- ---- what each answer says

-- ranges that fill r, counted from the last
filled : (rs : List Interval) (r : Interval) (first n : ℕ) → Fills rs r first (suc n) → EndToEnd r.start r.end (take (suc n) (drop first rs))
filled rs r first n h =
    let counted : first + suc n - first ≡ suc n = omega arith in
    subst (λ (k : ℕ). EndToEnd r.start r.end (take k (drop first rs))) counted h.1

-- ranges of no count fill nothing
nothing : (rs : List Interval) (r : Interval) (first : ℕ) → IsRange r → Fills rs r first 0 → ⊥
nothing rs r first range h =
    let counted : first + 0 - first ≡ 0 = omega arith in
    let same = subst (λ (k : ℕ). EndToEnd r.start r.end (take k (drop first rs))) counted h.1 in
    omega (arith, range, same)

fills_on : (rs : List Interval) (r : Interval) (first count : ℕ) → IsRange r → Fills rs r first count → IsOnBounds rs r
fills_on rs r first zero range h = absurd (nothing rs r first range h)
fills_on rs r first (suc n) range h =
    let ends = filled rs r first n h in (
      at_place (λ s. s.start ≡ r.start) rs first (omega (arith, h.0)) (first_start rs first n r.start r.end (omega (arith, h.0)) ends),
      at_place (λ s. s.end ≡ r.end) rs (first + n) (omega (arith, h.0)) (last_end rs first n r.start r.end (omega (arith, h.0)) ends),
    )

fills_held : (rs : List Interval) (r : Interval) (first count : ℕ) → Fills rs r first count → (day : ℕ) → Holds r day → Any (λ s. Holds s day) rs
fills_held rs r first count h day inside =
    let counted : first + count - first ≡ count = omega arith in
    held rs count first r.start r.end h.0 (subst (λ (k : ℕ). EndToEnd r.start r.end (take k (drop first rs))) counted h.1) day inside.0 inside.1

pub not_any : (P : Interval → Type 0) (rs : List Interval) → All (λ s. ¬ (P s)) rs → Any P rs → ⊥
not_any P rs h a = h a.0 a.1 a.2 (subst P (sym a.3) a.4)

off_on : (rs : List Interval) (r : Interval) → IsOffBounds rs r → IsOnBounds rs r → ⊥
off_on rs r (inl no_start) h = not_any (λ s. s.start ≡ r.start) rs no_start h.0
off_on rs r (inr no_end) h = not_any (λ s. s.end ≡ r.end) rs no_end h.1

less : (a b : ℕ) → a ≤ b → a ≢ b → a < b
less a b le other =
    elim (cases_lt a b) [
      | inl lt ↦ lt
      | inr ge ↦ absurd (other (omega arith))
    ]

hole_one : (rs : List Interval) (r : Interval) (a b : ℕ) → IsFirstFreeDay rs r a → IsFirstFreeDay rs r b → a ≡ b
hole_one rs r a b h k =
    elim (cases_lt a b) [
      | inl lt ↦ absurd (not_any (λ s. Holds s a) rs h.free (k.before a h.inside.0 lt))
      | inr le ↦ elim (cases_lt b a) [
        | inl gt ↦ absurd (not_any (λ s. Holds s b) rs k.free (h.before b k.inside.0 gt))
        | inr ge ↦ omega arith
      ]
    ]

fills_one : (rs : List Interval) (r : Interval) (f c g d : ℕ) → IsApart rs → IsRange r → Fills rs r f c → Fills rs r g d → (f ≡ g) × (c ≡ d)
fills_one rs r f zero g d apart range h k = absurd (nothing rs r f range h)
fills_one rs r f (suc c) g zero apart range h k = absurd (nothing rs r g range k)
fills_one rs r f (suc c) g (suc d) apart range h k =
    let hs = filled rs r f c h in
    let ks = filled rs r g d k in
    let first : f ≡ g = one_start rs apart f g (omega (arith, h.0)) (omega (arith, k.0)) (first_start rs f c r.start r.end (omega (arith, h.0)) hs ∙ sym (first_start rs g d r.start r.end (omega (arith, k.0)) ks)) in
    let last : f + c ≡ g + d = one_end rs apart (f + c) (g + d) (omega (arith, h.0)) (omega (arith, k.0)) (last_end rs f c r.start r.end (omega (arith, h.0)) hs ∙ sym (last_end rs g d r.start r.end (omega (arith, k.0)) ks)) in
    (first, omega arith)

-- a range is covered in one way
covers_one : (rs : List Interval) (r : Interval) → IsApart rs → IsRange r → (c e : Cover) → Covers rs r c → Covers rs r e → c ≡ e
covers_one rs r apart range NotOnBounds NotOnBounds h k = refl
covers_one rs r apart range NotOnBounds (Hole day) h k = absurd (off_on rs r h k.0)
covers_one rs r apart range NotOnBounds (Parts first count) h k = absurd (off_on rs r h (fills_on rs r first count range k))
covers_one rs r apart range (Hole day) NotOnBounds h k = absurd (off_on rs r k h.0)
covers_one rs r apart range (Hole day) (Hole other) h k = ap Hole (hole_one rs r day other h.1 k.1)
covers_one rs r apart range (Hole day) (Parts first count) h k = absurd (not_any (λ s. Holds s day) rs h.1.free (fills_held rs r first count k day h.1.inside))
covers_one rs r apart range (Parts first count) NotOnBounds h k = absurd (off_on rs r k (fills_on rs r first count range h))
covers_one rs r apart range (Parts first count) (Hole day) h k = absurd (not_any (λ s. Holds s day) rs k.1.free (fills_held rs r first count h day k.1.inside))
covers_one rs r apart range (Parts first count) (Parts f n) h k =
    let same = fills_one rs r first count f n apart range h k in rw (same.0, same.1) refl

-- an answer that covers is the answer exactly where it covers
pub covers_exactly : (rs : List Interval) (r : Interval) → IsApart rs → IsRange r → (c : Cover) → Covers rs r c → (e : Cover) → (c ≡ e) ↔ Covers rs r e
covers_exactly rs r apart range c h e = ((λ same. subst (λ (x : Cover). Covers rs r x) same h), covers_one rs r apart range c e h)

-- ---- what the search finds

module _ (rs : List Interval) (apart : IsApart rs) (r : Interval) (range : IsRange r) (first last : ℕ) (first_in : first < length rs) (last_in : last < length rs) (starts : (d : Interval) → (get_or rs first d).start ≡ r.start) (ends : (d : Interval) → (get_or rs last d).end ≡ r.end) where
  pub in_order : first ≤ last
  in_order =
      elim (cases_lt last first) [
        | inl lt ↦ absurd (omega (arith, range, apart.1 last first none lt first_in, starts none, ends none))
        | inr le ↦ le
      ]

  on_bounds : IsOnBounds rs r
  on_bounds = (at_place (λ s. s.start ≡ r.start) rs first first_in (starts none), at_place (λ s. s.end ≡ r.end) rs last last_in (ends none))

  pub covers_parts : AreJoined rs first last → Covers rs r (Parts first (last + 1 - first))
  covers_parts joined =
      let n = last - first in
      let le = in_order in
      let there : first + n ≡ last = omega arith in
      let counted : first + (last + 1 - first) - first ≡ suc n = omega arith in
      let ends_there = end_to_end rs first n (omega arith) (subst (λ (k : ℕ). AreJoined rs first k) (sym there) joined) in
      (omega arith, rw (counted, ← starts none, ← ends none) (subst (λ (k : ℕ). EndToEnd (get_or rs first none).start (get_or rs k none).end (take (suc n) (drop first rs))) there ends_there))

  pub covers_hole : (k : ℕ) (x : Interval) → first ≤ k → k < last → AreJoined rs first k → ((d : Interval) → (get_or rs k d).end ≢ (get_or rs (k + 1) d).start) → x ≡ get_or rs k x → Covers rs r (Hole x.end)
  covers_hole k x low high joined gap is =
      let day : (get_or rs k none).end ≡ x.end = ap (λ (t : Interval). t.end) (read_is rs k x none (omega arith) is) in
      subst (λ (d : ℕ). Covers rs r (Hole d)) day (
        on_bounds,
        record {
          inside = (omega (arith, starts none, apart.0 first none first_in, ends_rise rs apart first k none low (omega arith)), omega (arith, ends none, ends_rise rs apart (k + 1) last none (omega arith) last_in, apart.0 (k + 1) none (omega arith), apart.1 k (k + 1) none (omega arith) (omega arith)));
          free = λ m d m_in h. elim (cases_lt k m) [
            | inl after ↦ later m d after m_in h
            | inr before ↦ omega (arith, h.1, ends_rise rs apart m k d before (omega arith), ap (λ (t : Interval). t.end) (get_or_default rs k d none (omega arith)))
          ];
          before = λ d from to. filled_before d from to;
        },
      )
    where
      later : (m : ℕ) (d : Interval) → k < m → m < length rs → Holds (get_or rs m d) (get_or rs k none).end → ⊥
      later m d after m_in h =
          let start = starts_rise rs apart (k + 1) m d (omega arith) m_in in
          let apart_there : (get_or rs k d).end < (get_or rs (k + 1) d).start = less (get_or rs k d).end (get_or rs (k + 1) d).start (apart.1 k (k + 1) d (omega arith) (omega arith)) (gap d) in
          omega (arith, h.0, start, apart_there, ap (λ (t : Interval). t.end) (get_or_default rs k d none (omega arith)))

      filled_before : (d : ℕ) → r.start ≤ d → d < (get_or rs k none).end → Any (λ s. Holds s d) rs
      filled_before d from to =
          let n = k - first in
          let there : first + n ≡ k = omega arith in
          let ends_there = end_to_end rs first n (omega arith) (subst (λ (j : ℕ). AreJoined rs first j) (sym there) joined) in
          let to_there = subst (λ (j : ℕ). d < (get_or rs j none).end) (sym there) to in
          held rs (suc n) first (get_or rs first none).start (get_or rs (first + n) none).end (omega arith) ends_there d (omega (arith, starts none, from)) to_there
