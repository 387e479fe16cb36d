-- Lists of ranges that rise without a common day.
use Rattle.std.proofs.Common.{◌≡◌, ◌≢◌, ◌≤◌, ◌<◌, ◌+◌, ℕ, inl, inr, refl, sym, ap, subst, ◌∙◌, ◌-◌, arith, List, length, get_or, insert, remove}
use Rattle.std.specs.Prelude.{All, AllPairs}
use Rattle.std.proofs.lemmas.Bool.{cases_lt}
use Rattle.std.proofs.lemmas.List.{get_or_default}
use Rattle.std.proofs.lemmas.Option.{get_or_from_slice_get, slice_get_read, slice_get_within}
use Rattle.std.proofs.lemmas.List.Edits.{length-insert, get_or-insert_below, get_or-insert_at, get_or-insert_above, length-remove, get_or-remove_below, get_or-remove_above}
use Rattle.std.proofs.lemmas.List.Quantifiers.{all_pairs_remove}
use Rattle.range_list.specs.Ranges.{Interval, IsRange, Overlaps, IsBefore, IsApart, IsFree, IsFirstOverlap, AreJoined}

-- ranges of which each starts before the other ends have a common day
pub overlap : (r s : Interval) → IsRange r → IsRange s → r.start < s.end → s.start < r.end → Overlaps r s
overlap r s hr hs a b =
    elim (cases_lt r.start s.start) [
      | inl lt ↦ (s.start, ((omega arith, omega arith), (omega arith, omega arith)))
      | inr le ↦ (r.start, ((omega arith, omega arith), (omega arith, omega arith)))
    ]

-- and no others have
pub overlap_ends : (r s : Interval) → Overlaps r s → (r.start < s.end) × (s.start < r.end)
overlap_ends r s h = (omega (arith, h.1), omega (arith, h.1))

-- later ranges end later
pub ends_rise : (rs : List Interval) → IsApart rs → (i j : ℕ) (d : Interval) → i ≤ j → j < length rs → (get_or rs i d).end ≤ (get_or rs j d).end
ends_rise rs h i j d le in_list =
    elim (cases_lt i j) [
      | inl lt ↦ omega (arith, h.1 i j d lt in_list, h.0 j d in_list)
      | inr ge ↦ let same : i ≡ j = omega arith in rw same (omega arith)
    ]

-- and start later
pub starts_rise : (rs : List Interval) → IsApart rs → (i j : ℕ) (d : Interval) → i ≤ j → j < length rs → (get_or rs i d).start ≤ (get_or rs j d).start
starts_rise rs h i j d le in_list =
    elim (cases_lt i j) [
      | inl lt ↦ omega (arith, h.1 i j d lt in_list, h.0 i d (omega arith))
      | inr ge ↦ let same : i ≡ j = omega arith in rw same (omega arith)
    ]

-- the range at a place, whatever stands past the end
pub read_is : (rs : List Interval) (i : ℕ) (x d : Interval) → i < length rs → x ≡ get_or rs i x → get_or rs i d ≡ x
read_is rs i x d in_list is = get_or_default rs i d x in_list ∙ sym is

-- where a range has ended, each one before it has
pub ended_more : (rs : List Interval) → IsApart rs → (day i : ℕ) (x : Interval) → i < length rs → x ≡ get_or rs i x → x.end ≤ day
    → (k : ℕ) (d : Interval) → k < i + 1 → (get_or rs k d).end ≤ day
ended_more rs h day i x in_list is ended k d lt =
    omega (arith, ends_rise rs h k i d (omega arith) in_list, ap (λ (r : Interval). r.end) (read_is rs i x d in_list is))

-- and where it ends later, each one after it does
pub later_more : (rs : List Interval) → IsApart rs → (day i : ℕ) (x : Interval) → i < length rs → x ≡ get_or rs i x → day < x.end
    → (k : ℕ) (d : Interval) → i ≤ k → k < length rs → day < (get_or rs k d).end
later_more rs h day i x in_list is later k d le k_in =
    omega (arith, ends_rise rs h i k d le k_in, ap (λ (r : Interval). r.end) (read_is rs i x d in_list is))

-- the list with a range more
module _ (rs : List Interval) (i : ℕ) (r : Interval) (h : IsApart rs) (range : IsRange r) (within : i ≤ length rs) (before : (k : ℕ) (d : Interval) → k < i → (get_or rs k d).end ≤ r.start) (after : (k : ℕ) (d : Interval) → i ≤ k → k < length rs → r.end ≤ (get_or rs k d).start) where
  insert_ranges : All IsRange (insert rs i r)
  insert_ranges k d lt =
      elim (cases_lt k i) [
        | inl below ↦ subst IsRange (sym (get_or-insert_below rs i r d k below within)) (h.0 k d (omega arith))
        | inr from ↦ elim (cases_lt i k) [
          | inl above ↦
              let next : k - 1 + 1 ≡ k = omega arith in
              let there : k - 1 < length rs = omega (arith, lt, length-insert rs i r within) in
              subst IsRange (sym (subst (λ (n : ℕ). get_or (insert rs i r) n d ≡ get_or rs (k - 1) d) next (get_or-insert_above rs i r d (k - 1) (omega arith) within))) (h.0 (k - 1) d there)
          | inr to ↦
              let same : i ≡ k = omega arith in
              subst IsRange (sym (subst (λ (n : ℕ). get_or (insert rs i r) n d ≡ r) same (get_or-insert_at rs i r d within))) range
        ]
      ]

  -- a range of the longer list that stands before its place i, after it, or at it
  read_below : (k : ℕ) (d : Interval) → k < i → get_or (insert rs i r) k d ≡ get_or rs k d
  read_below k d lt = get_or-insert_below rs i r d k lt within

  read_at : (k : ℕ) (d : Interval) → i ≡ k → get_or (insert rs i r) k d ≡ r
  read_at k d same = subst (λ (n : ℕ). get_or (insert rs i r) n d ≡ r) same (get_or-insert_at rs i r d within)

  read_above : (k : ℕ) (d : Interval) → i < k → get_or (insert rs i r) k d ≡ get_or rs (k - 1) d
  read_above k d lt = subst (λ (n : ℕ). get_or (insert rs i r) n d ≡ get_or rs (k - 1) d) (omega arith) (get_or-insert_above rs i r d (k - 1) (omega arith) within)

  ends : (a b : Interval) (x y : Interval) → a ≡ x → b ≡ y → x.end ≤ y.start → a.end ≤ b.start
  ends a b x y p q le = omega (arith, ap (λ (t : Interval). t.end) p, ap (λ (t : Interval). t.start) q, le)

  insert_pairs : AllPairs IsBefore (insert rs i r)
  insert_pairs j k d lt in_list =
      let long : length (insert rs i r) ≡ length rs + 1 = length-insert rs i r within in
      elim (cases_lt k i) [
        | inl below ↦ ends _ _ _ _ (read_below j d (omega arith)) (read_below k d below) (h.1 j k d lt (omega arith))
        | inr from ↦ elim (cases_lt i k) [
          | inr to ↦ ends _ _ _ _ (read_below j d (omega arith)) (read_at k d (omega arith)) (before j d (omega arith))
          | inl above ↦ elim (cases_lt j i) [
            | inl under ↦ ends _ _ _ _ (read_below j d under) (read_above k d above) (h.1 j (k - 1) d (omega arith) (omega arith))
            | inr over ↦ elim (cases_lt i j) [
              | inl beyond ↦ ends _ _ _ _ (read_above j d beyond) (read_above k d above) (h.1 (j - 1) (k - 1) d (omega arith) (omega arith))
              | inr here ↦ ends _ _ _ _ (read_at j d (omega arith)) (read_above k d above) (after (k - 1) d (omega arith) (omega arith))
            ]
          ]
        ]
      ]

  pub insert_apart : IsApart (insert rs i r)
  insert_apart = (insert_ranges, insert_pairs)

-- and with one less
pub remove_apart : (rs : List Interval) (i : ℕ) → IsApart rs → i < length rs → IsApart (remove rs i)
remove_apart rs i h in_list = (ranges, all_pairs_remove IsBefore rs i in_list h.1) where
  ranges : All IsRange (remove rs i)
  ranges k d lt =
      elim (cases_lt k i) [
        | inl below ↦ subst IsRange (sym (get_or-remove_below rs i d k below in_list)) (h.0 k d (omega arith))
        | inr from ↦ subst IsRange (sym (get_or-remove_above rs i d k from in_list)) (h.0 (k + 1) d (omega (arith, lt, length-remove rs i in_list)))
      ]

-- ---- the ranges around the first one that ends after the start of r

-- none of them has a day in common with r: those before have ended, those after start later
pub free_around : (rs : List Interval) → IsApart rs → (r : Interval) (i : ℕ) → ((k : ℕ) (d : Interval) → k < i → (get_or rs k d).end ≤ r.start) → ((k : ℕ) (d : Interval) → i ≤ k → k < length rs → r.end ≤ (get_or rs k d).start) → IsFree rs r
free_around rs h r i ended later k d in_list o =
    let ends = overlap_ends (get_or rs k d) r o in
    elim (cases_lt k i) [
      | inl lt ↦ absurd (omega (arith, ends, ended k d lt))
      | inr le ↦ absurd (omega (arith, ends, later k d le in_list))
    ]

-- where the first of them starts at the end of r or after it, so do the others
pub starts_more : (rs : List Interval) → IsApart rs → (day i : ℕ) (x : Interval) → i < length rs → x ≡ get_or rs i x → day ≤ x.start → (k : ℕ) (d : Interval) → i ≤ k → k < length rs → day ≤ (get_or rs k d).start
starts_more rs h day i x in_list is later k d le k_in =
    omega (arith, starts_rise rs h i k d le k_in, ap (λ (t : Interval). t.start) (read_is rs i x d in_list is))

-- where r is free, the ranges that end after its start start at its end or after it
pub free_later : (rs : List Interval) → IsApart rs → (r : Interval) → IsRange r → IsFree rs r → (i : ℕ) → ((k : ℕ) (d : Interval) → i ≤ k → k < length rs → r.start < (get_or rs k d).end) → (k : ℕ) (d : Interval) → i ≤ k → k < length rs → r.end ≤ (get_or rs k d).start
free_later rs h r range free i ended k d le in_list =
    elim (cases_lt (get_or rs k d).start r.end) [
      | inl lt ↦ absurd (free k d in_list (overlap (get_or rs k d) r (h.0 k d in_list) range lt (ended k d le in_list)))
      | inr ge ↦ ge
    ]

-- ---- searches

-- the first range that has not ended when r starts is the first that overlaps it, if it starts before the end of r
pub first_overlap : (rs : List Interval) (r : Interval) (i : ℕ) (x : Interval) → IsApart rs → IsRange r → i < length rs → x ≡ get_or rs i x → ((k : ℕ) (d : Interval) → k < i → (get_or rs k d).end ≤ r.start) → r.start < x.end → x.start < r.end → IsFirstOverlap rs r i
first_overlap rs r i x h range in_list is ended low high = record {
  there = x;
  at = slice_get_read rs (length rs) i x refl in_list is;
  overlaps = overlap x r (subst IsRange (sym is) (h.0 i x in_list)) range high low;
  before = λ k s lt there o. absurd (omega (arith, overlap_ends s r o, ended k s lt, ap (λ (t : Interval). t.end) (get_or_from_slice_get rs k s s there)));
}

-- no range starts on a day where the first one that ends later doesn't
pub no_start : (rs : List Interval) → IsApart rs → (day i : ℕ) (x : Interval) → i < length rs → x ≡ get_or rs i x → ((k : ℕ) (d : Interval) → k < i → (get_or rs k d).end ≤ day) → day < x.end → x.start ≢ day → All (λ s. s.start ≢ day) rs
no_start rs h day i x in_list is ended later other k d k_in e =
    elim (cases_lt k i) [
      | inl lt ↦ omega (arith, h.0 k d k_in, ended k d lt, e)
      | inr le ↦ elim (cases_lt i k) [
        | inl gt ↦ omega (arith, h.1 i k d gt k_in, ap (λ (t : Interval). t.end) (read_is rs i x d in_list is), e)
        | inr ge ↦
            let same : i ≡ k = omega arith in
            other (ap (λ (t : Interval). t.start) (sym (read_is rs i x d in_list is)) ∙ ap (λ (n : ℕ). (get_or rs n d).start) same ∙ e)
      ]
    ]

-- and no range ends on a day where the last one that has ended doesn't
pub no_end : (rs : List Interval) → IsApart rs → (day i : ℕ) (x : Interval) → i < length rs → x ≡ get_or rs i x → ((k : ℕ) (d : Interval) → i < k → k < length rs → day < (get_or rs k d).end) → x.end ≤ day → x.end ≢ day → All (λ s. s.end ≢ day) rs
no_end rs h day i x in_list is later ended other k d k_in e =
    elim (cases_lt i k) [
      | inl gt ↦ omega (arith, later k d gt k_in, e)
      | inr le ↦ elim (cases_lt k i) [
        | inl lt ↦ omega (arith, h.1 k i d lt in_list, h.0 i d in_list, ap (λ (t : Interval). t.end) (read_is rs i x d in_list is), e)
        | inr ge ↦
            let same : i ≡ k = omega arith in
            other (ap (λ (t : Interval). t.end) (sym (read_is rs i x d in_list is)) ∙ ap (λ (n : ℕ). (get_or rs n d).end) same ∙ e)
      ]
    ]

-- ranges that are joined, and one more
pub joined_more : (rs : List Interval) (first i : ℕ) (x y : Interval) → i + 1 < length rs → x ≡ get_or rs i x → y ≡ get_or rs (i + 1) y → AreJoined rs first i → x.end ≡ y.start → AreJoined rs first (i + 1)
joined_more rs first i x y in_list x_is y_is joined same k d le lt =
    elim (cases_lt k i) [
      | inl under ↦ joined k d le under
      | inr at ↦
          let here : i ≡ k = omega arith in
          subst (λ (n : ℕ). (get_or rs n d).end ≡ (get_or rs (n + 1) d).start) here
          (ap (λ (t : Interval). t.end) (read_is rs i x d (omega arith) x_is) ∙ same ∙ sym (ap (λ (t : Interval). t.start) (read_is rs (i + 1) y d in_list y_is)))
    ]

-- a range that overlaps one of the list isn't free of it
pub first_is_not_free : (rs : List Interval) (r : Interval) (i : ℕ) → IsFirstOverlap rs r i → IsFree rs r → ⊥
first_is_not_free rs r i h free =
    let there = get_or_from_slice_get rs i h.there h.there h.at in
    free i h.there (slice_get_within rs i h.there h.at) (subst (λ (s : Interval). Overlaps s r) (sym there) h.overlaps)
