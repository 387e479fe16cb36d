-- What a binary search finds among rising masks.
use Rattle.std.proofs.Common.{◌≡◌, ℕ, ◌<◌, ◌≤◌, cond, List, length, get_or, Option, Result, Ok, Err, MatchResult, IfOk, ap, ◌∙◌, inl, inr, arith, nat_cmp, Less, Equal, Greater, ◌↔◌}
use Rattle.std.specs.Prelude.{IsSome, is_some, Contains, eqb, ◌⊎◌}
use Rattle.std.specs.Ordering.{ordering_index}
use Rattle.std.specs.Result.{result_ok}
use Rattle.std.specs.List.{HoldsAt}
use Rattle.std.specs.List.Sorted.{IsBinarySearchResult, IsNonDecreasingBy}
use Rattle.std.proofs.lemmas.Bool.{cases_order, cases_eq, cases_lt, lt-ltb, le-ltb, eq-eqb, ne_eqb}
use Rattle.agg_group.specs.declared.mask.Mask.{Mask}
use Rattle.agg_group.specs.Mask.{IsRising}

cmp_less : (x t : ℕ) → x < t → nat_cmp x t ≡ Less
cmp_less x t h = ap (λ b. cond b Less (cond (eqb x t) Equal Greater)) (lt-ltb x t h)

cmp_other : (x t : ℕ) → t ≤ x → nat_cmp x t ≡ cond (eqb x t) Equal Greater
cmp_other x t h = ap (λ b. cond b Less (cond (eqb x t) Equal Greater)) (le-ltb x t h)

cmp_equal : (x t : ℕ) → x ≡ t → nat_cmp x t ≡ Equal
cmp_equal x t e = cmp_other x t (omega arith) ∙ ap (λ b. cond b Equal Greater) (eq-eqb x t e)

cmp_greater : (x t : ℕ) → t < x → nat_cmp x t ≡ Greater
cmp_greater x t h = cmp_other x t (omega arith) ∙ ap (λ b. cond b Equal Greater) (ne_eqb x t (λ e. omega arith))

same_from_cmp : (x t : ℕ) → nat_cmp x t ≡ Equal → x ≡ t
same_from_cmp x t h =
    elim (cases_order x t) [
      | inl e ↦ e
      | inr (inl less) ↦ (let d = cmp_less x t less in cc)
      | inr (inr more) ↦ (let d = cmp_greater x t more in cc)
    ]

index_of : (x t : ℕ) → ((x < t) × (ordering_index (nat_cmp x t) ≡ 0)) ⊎ (((x ≡ t) × (ordering_index (nat_cmp x t) ≡ 1)) ⊎ ((t < x) × (ordering_index (nat_cmp x t) ≡ 2)))
index_of x t =
    elim (cases_order x t) [
      | inl e ↦ inr (inl (e, ap ordering_index (cmp_equal x t e)))
      | inr (inl less) ↦ inl (less, ap ordering_index (cmp_less x t less))
      | inr (inr more) ↦ inr (inr (more, ap ordering_index (cmp_greater x t more)))
    ]

index_rises : (x y t : ℕ) → x ≤ y → ordering_index (nat_cmp x t) ≤ ordering_index (nat_cmp y t)
index_rises x y t h =
    elim (index_of x t) [
      | inl a ↦ omega (arith, a.1)
      | inr (inl a) ↦ elim (index_of y t) [ inl b ↦ absurd (omega arith) | inr (inl b) ↦ omega arith | inr (inr b) ↦ omega arith ]
      | inr (inr a) ↦ elim (index_of y t) [ inl b ↦ absurd (omega arith) | inr (inl b) ↦ absurd (omega arith) | inr (inr b) ↦ omega arith ]
    ]

searchable : (masks : List Mask) (m : Mask) → IsRising masks → IsNonDecreasingBy (λ y. ordering_index (nat_cmp y.0 m.0)) masks
searchable masks m rising = λ i j d le low.
    elim (cases_eq i j) [
      | inl e ↦ omega (arith, ap (λ x. ordering_index (nat_cmp (get_or masks x d).0 m.0)) e)
      | inr ne ↦ index_rises (get_or masks i d).0 (get_or masks j d).0 m.0 (omega (arith, rising i j d (omega arith) low))
    ]

pub found_says : (masks : List Mask) (m : Mask) (r : Result ℕ ℕ) → IsRising masks → MatchResult r (λ i. i < length masks) (λ i. i ≤ length masks) → IfOk r (HoldsAt (λ y. nat_cmp y.0 m.0 ≡ Equal) masks) → IsBinarySearchResult (λ y. nat_cmp y.0 m.0) masks r → (o : Option ℕ) → o ≡ result_ok r → IsSome o ↔ Contains masks m
found_says masks m (Ok i) rising inside at position o e =
    (λ _. (i, inside, ap (λ x. record { 0 = x }) (same_from_cmp (get_or masks i m).0 m.0 (at m))), λ _. ap is_some e)
found_says masks m (Err i) rising inside at position o e = (
  λ h. absurd (let none = ap is_some e in cc),
  λ w.
      let same : nat_cmp (get_or masks w.0 m).0 m.0 ≡ Equal = cmp_equal _ _ (ap (λ (x : Mask). x.0) w.2) in
      let parts = position (searchable masks m rising) in
      elim (cases_lt w.0 i) [
        | inl before ↦ absurd (let d = parts.0 w.0 m (omega arith) before in cc)
        | inr after ↦ absurd (let d = parts.1 w.0 m after w.1 in cc)
      ],
)
