-- One merge after the other.
use Rattle.std.proofs.Common.{◌≡◌, ◌≤◌, ◌<◌, ◌+◌, ◌-◌, ℕ, inl, inr, refl, sym, ap, ap₂, subst, ◌∙◌, arith, List, [], ◌∷◌, ◌++◌, length, get_or, take, drop, length-append, length-take-le, length-drop}
use Rattle.std.specs.Prelude.{All, AllPairs}
use Rattle.std.specs.List.{replace_range}
use Rattle.std.proofs.lemmas.Bool.{cases_eq, cases_lt}
use Rattle.std.proofs.lemmas.List.{get_or_default, get_or_append_left, get_or-append_right, get_or-take, get_or-drop, get_or_at}
use Rattle.range_list.specs.Ranges.{Interval, IsRange, IsBefore, IsApart}
use Rattle.range_list.proofs.Apart.{ends_rise}
use Rattle.auto_merge.specs.Chances.{whole, IsNext}
use Rattle.auto_merge.specs.Plans.{merged, AreMerges}

-- one merge more
pub merges_more : (days : List ℕ) (rs merges left : List Interval) (first count : ℕ) → AreMerges days rs merges left → IsNext days left first count → AreMerges days rs (merges ++ whole left first count ∷ []) (merged left first count)
merges_more days rs [] left first count h next = subst (λ (m : List Interval). AreMerges days rs (whole m first count ∷ []) (merged m first count)) h (first, count, subst (λ (m : List Interval). IsNext days m first count) (sym h) next, refl, refl)
merges_more days rs (r ∷ more) left first count h next = (h.0, h.1, h.2, h.3, merges_more days (merged rs h.0 h.1) more left first count h.4 next)

-- the range that some neighbours are merged into, and the list with it in their place
module _ (rs : List Interval) (first count : ℕ) (apart : IsApart rs) (some : 0 < count) (within : first + count ≤ length rs) where
  front_long : length (take first rs ++ whole rs first count ∷ []) ≡ first + 1
  front_long = length-append (take first rs) (whole rs first count ∷ []) ∙ ap (λ n. n + 1) (length-take-le first rs (omega arith))

  pub merged_long : length (merged rs first count) ≡ first + 1 + (length rs - (first + count))
  merged_long = length-append (take first rs ++ whole rs first count ∷ []) (drop (first + count) rs) ∙ omega (arith, front_long, length-drop (first + count) rs)

  read_below : (k : ℕ) (d : Interval) → k < first → get_or (merged rs first count) k d ≡ get_or rs k d
  read_below k d lt =
      get_or_append_left (take first rs ++ whole rs first count ∷ []) (drop (first + count) rs) d k (omega (arith, front_long))
      ∙ get_or_append_left (take first rs) (whole rs first count ∷ []) d k (omega (arith, length-take-le first rs (omega arith)))
      ∙ get_or-take first rs k d lt

  read_at : (d : Interval) → get_or (merged rs first count) first d ≡ whole rs first count
  read_at d =
      get_or_append_left (take first rs ++ whole rs first count ∷ []) (drop (first + count) rs) d first (omega (arith, front_long))
      ∙ get_or_at (take first rs) (whole rs first count) [] d first (length-take-le first rs (omega arith))

  read_above : (k : ℕ) (d : Interval) → first < k → get_or (merged rs first count) k d ≡ get_or rs (k + count - 1) d
  read_above k d lt =
      get_or-append_right (take first rs ++ whole rs first count ∷ []) (drop (first + count) rs) (first + 1) k d front_long (omega arith)
      ∙ get_or-drop (first + count) rs (k - (first + 1)) d
      ∙ ap (λ n. get_or rs n d) (omega arith)

  -- where a range of the shorter list starts and ends, in the longer one
  starts_at : (k : ℕ) (d : Interval) → k < length (merged rs first count) → (n : ℕ) × (k ≤ n) × (first < k → k + count ≤ n + 1) × (n < length rs) × ((get_or (merged rs first count) k d).start ≡ (get_or rs n d).start)
  starts_at k d k_in =
      elim (cases_lt first k) [
        | inl above ↦ (k + count - 1, omega arith, (λ _. omega arith), omega (arith, merged_long), ap (λ (r : Interval). r.start) (read_above k d above))
        | inr le ↦ elim (cases_eq k first) [
          | inl e ↦ (
            k,
            omega arith,
            (λ lt. absurd (omega arith)),
            omega arith,
            subst (λ (n : ℕ). (get_or (merged rs first count) n d).start ≡ (get_or rs n d).start) (sym e)
                (ap (λ (r : Interval). r.start) (read_at d ∙ refl) ∙ ap (λ (r : Interval). r.start) (get_or_default rs first (record { start = 0; end = 0 }) d (omega arith))),
          )
          | inr ne ↦ (k, omega arith, (λ lt. absurd (omega arith)), omega arith, ap (λ (r : Interval). r.start) (read_below k d (omega arith)))
        ]
      ]

  ends_at : (k : ℕ) (d : Interval) → k < length (merged rs first count) → (n : ℕ) × (n < k + count) × (k < first → n ≤ k) × (n < length rs) × ((get_or (merged rs first count) k d).end ≡ (get_or rs n d).end)
  ends_at k d k_in =
      elim (cases_lt first k) [
        | inl above ↦ (k + count - 1, omega arith, (λ lt. absurd (omega arith)), omega (arith, merged_long), ap (λ (r : Interval). r.end) (read_above k d above))
        | inr le ↦ elim (cases_eq k first) [
          | inl e ↦ (
            k + count - 1,
            omega arith,
            (λ lt. absurd (omega arith)),
            omega arith,
            subst (λ (n : ℕ). (get_or (merged rs first count) n d).end ≡ (get_or rs (n + count - 1) d).end) (sym e)
                (ap (λ (r : Interval). r.end) (read_at d ∙ refl) ∙ ap (λ (r : Interval). r.end) (get_or_default rs (first + count - 1) (record { start = 0; end = 0 }) d (omega arith))),
          )
          | inr ne ↦ (k, omega arith, (λ _. omega arith), omega arith, ap (λ (r : Interval). r.end) (read_below k d (omega arith)))
        ]
      ]

  -- the whole is a range
  pub whole_range : IsRange (whole rs first count)
  whole_range = omega (arith, apart.0 first (record { start = 0; end = 0 }) (omega arith), ends_rise rs apart first (first + count - 1) (record { start = 0; end = 0 }) (omega arith) (omega arith))

  -- ranges that are apart stay so
  pub merged_apart : IsApart (merged rs first count)
  merged_apart = (ranges, pairs) where
    ranges : All IsRange (merged rs first count)
    ranges k d k_in =
        elim (cases_lt first k) [
          | inl above ↦ subst IsRange (sym (read_above k d above)) (apart.0 (k + count - 1) d (omega (arith, merged_long)))
          | inr le ↦ elim (cases_eq k first) [
            | inl e ↦ subst (λ (n : ℕ). IsRange (get_or (merged rs first count) n d)) (sym e) (subst IsRange (sym (read_at d)) whole_range)
            | inr ne ↦ subst IsRange (sym (read_below k d (omega arith))) (apart.0 k d (omega arith))
          ]
        ]

    order : (i j : ℕ) (d : Interval) → i < j → j < length (merged rs first count) → (a : (n : ℕ) × (n < i + count) × (i < first → n ≤ i) × (n < length rs) × ((get_or (merged rs first count) i d).end ≡ (get_or rs n d).end))
        → (b : (n : ℕ) × (j ≤ n) × (first < j → j + count ≤ n + 1) × (n < length rs) × ((get_or (merged rs first count) j d).start ≡ (get_or rs n d).start)) → IsBefore (get_or (merged rs first count) i d) (get_or (merged rs first count) j d)
    order i j d lt j_in a b =
        let before : a.0 < b.0 = elim (cases_lt i first) [
          | inl low ↦ omega (arith, a.2 low, b.1)
          | inr high ↦ omega (arith, a.1, b.2 (omega arith))
        ] in
        omega (arith, apart.1 a.0 b.0 d before b.3, a.4, b.4)

    pairs : AllPairs IsBefore (merged rs first count)
    pairs i j d lt j_in = order i j d lt j_in (ends_at i d (omega arith)) (starts_at j d j_in)

-- ---- a merge as the code makes it

-- what it leaves of the ranges, and what it adds to the merges
pub merge_made : (days : List ℕ) (start merges left s t u next : List Interval) (first count : ℕ) (w : Interval) → IsApart left → AreMerges days start merges left → s ≡ left → t ≡ left → u ≡ left → IsNext days s first count → w ≡ whole t first count → next ≡ replace_range u first (first + count) (w ∷ [])
    → IsApart next × AreMerges days start (merges ++ w ∷ []) next
merge_made days start merges left s t u next first count w apart so_far s_is t_is u_is is_next w_is next_is =
    let step = subst (λ (x : List Interval). IsNext days x first count) s_is is_next in
    let range : w ≡ whole left first count = w_is ∙ ap (λ x. whole x first count) t_is in
    let made : next ≡ merged left first count = next_is ∙ ap₂ (λ x y. replace_range x first (first + count) (y ∷ [])) u_is range in
    let added = merges_more days start merges left first count so_far step in (
      subst IsApart (sym made) (merged_apart left first count apart (omega (arith, step.chance.two)) step.chance.inside),
      subst (λ (x : Interval). AreMerges days start (merges ++ x ∷ []) next) (sym range) (subst (λ (x : List Interval). AreMerges days start (merges ++ whole left first count ∷ []) x) (sym made) added),
    )
