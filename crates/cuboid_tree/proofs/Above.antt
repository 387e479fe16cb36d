-- A strict superset has more dimensions and stands later, and a place that is the least of those that pass is the one that is found.
use Rattle.std.proofs.Common.{◌≡◌, ◌∙◌, ℕ, zero, suc, ◌+◌, ◌<◌, ◌≤◌, ◌^◌, Bool, true, false, cond, eqb, count_by, List, [], ◌∷◌, length, Option, Some, None, MatchOption, refl, sym, ap, subst, inl, inr, arith}
use Rattle.std.specs.Prelude.{bit_and, not}
use Rattle.std.specs.List.{AllByRecursion, range_with_len}
use Rattle.std.proofs.lemmas.Bool.{and_parts, cases_eq, cases_lt, cases_order, eq-eqb, eqb-true, false≢true, not-true}
use Rattle.std.proofs.lemmas.Nat.{and_le_r}
use Rattle.std.proofs.lemmas.List.Sums.{sum_by-cons}
use Rattle.agg_group.specs.declared.mask.Mask.{Mask}
use Rattle.agg_group.specs.Least.{IsLeastPlace, least_place}
use Rattle.agg_group.specs.Mask.{IsRising, IsWithin, count_of, has, is_within, mask_at}
use Rattle.agg_group.specs.Sets.{dimensions}
use Rattle.agg_group.proofs.LeastLemmas.{least_says}
use Rattle.agg_group.proofs.MaskLemmas.{and_is_within, count_within, has_past, mask_same}
use Rattle.agg_group.proofs.SetLemmas.{subset_decides}
use Rattle.cuboid_tree.specs.Tree.{is_above}

-- ---- strict supersets

cond_less : (x y : Bool) → (x ≡ true → y ≡ true) → cond x 1 0 ≤ cond y 1 0
cond_less true y h = rw (h refl) (omega arith)
cond_less false y h = omega arith

cond_same : (x y : Bool) → (x ≡ true → y ≡ true) → cond y 1 0 ≤ cond x 1 0 → x ≡ y
cond_same true y h le = sym (h refl)
cond_same false true h le = absurd (omega arith)
cond_same false false h le = refl

fewer : (p q : ℕ → Bool) → ((x : ℕ) → p x ≡ true → q x ≡ true) → (xs : List ℕ) → count_by p xs ≤ count_by q xs
fewer p q h [] = omega arith
fewer p q h (x ∷ xs) =
    omega (arith, sum_by-cons (λ y. cond (p y) 1 0) x xs, sum_by-cons (λ y. cond (q y) 1 0) x xs, cond_less (p x) (q x) (h x), fewer p q h xs)

-- where as many pass, the tests agree
same_each : (p q : ℕ → Bool) → ((x : ℕ) → p x ≡ true → q x ≡ true) → (xs : List ℕ) → count_by p xs ≡ count_by q xs → AllByRecursion (λ x. p x ≡ q x) xs
same_each p q h [] e = tt
same_each p q h (x ∷ xs) e =
    let a = sum_by-cons (λ y. cond (p y) 1 0) x xs in
    let b = sum_by-cons (λ y. cond (q y) 1 0) x xs in
    let less = fewer p q h xs in
    let here = cond_less (p x) (q x) (h x) in
    (cond_same (p x) (q x) (h x) (omega (arith, a, b, e, less)), same_each p q h xs (omega (arith, a, b, e, less, here)))

range_each : (P : ℕ → Type 0) (a n : ℕ) → AllByRecursion P (range_with_len a n) → (d : ℕ) → a ≤ d → d < a + n → P d
range_each P a zero all d low high = absurd (omega arith)
range_each P a (suc n) all d low high =
    elim (cases_eq a d) [ inl e ↦ subst P e all.0 | inr ne ↦ range_each P (a + 1) n all.1 d (omega arith) (omega arith) ]

same_masks : (a b : Mask) → a.0 < 2 ^ 64 → b.0 < 2 ^ 64 → IsWithin a b → count_of a ≡ count_of b → a ≡ b
unfolding count_of
same_masks a b fits_a fits_b up e =
    let each = same_each (has a) (has b) up (dimensions 64) e in
    mask_same a b (λ d. elim (cases_lt d 64) [
      | inl low ↦ range_each (λ x. has a x ≡ has b x) 0 64 each d (omega arith) (omega arith)
      | inr high ↦ has_past a fits_a d high ∙ sym (has_past b fits_b d high)
    ])

-- a strict superset has more dimensions
pub above_more : (masks : List Mask) (i k : ℕ) → (mask_at masks i).0 < 2 ^ 64 → (mask_at masks k).0 < 2 ^ 64 → is_above masks i k ≡ true → count_of (mask_at masks i) < count_of (mask_at masks k)
above_more masks i k fits_i fits_k at =
    let a = mask_at masks i in
    let b = mask_at masks k in
    let parts = and_parts (is_within a b) (not (eqb a.0 b.0)) at in
    let differ : eqb a.0 b.0 ≡ false = not-true _ parts.1 in
    let up : IsWithin a b = (subset_decides (has a) (has b) (has_past a fits_i)).0 parts.0 in
    elim (cases_eq (count_of a) (count_of b)) [
      | inl e ↦ absurd (false≢true (sym differ ∙ eq-eqb a.0 b.0 (ap (λ (m : Mask). m.0) (same_masks a b fits_i fits_k up e))))
      | inr ne ↦ omega (arith, count_within a b up)
    ]

-- .. and stands later
pub above_later : (masks : List Mask) (i k : ℕ) → IsRising masks → i < length masks → (mask_at masks i).0 < 2 ^ 64 → is_above masks i k ≡ true → i < k
above_later masks i k rising low fits at =
    let a = mask_at masks i in
    let b = mask_at masks k in
    let parts = and_parts (is_within a b) (not (eqb a.0 b.0)) at in
    let differ : eqb a.0 b.0 ≡ false = not-true _ parts.1 in
    let same : bit_and a.0 b.0 ≡ a.0 = eqb-true (bit_and a.0 b.0) a.0 (and_is_within a b fits ∙ parts.0) in
    let le : a.0 ≤ b.0 = omega (arith, and_le_r a.0 b.0) in
    elim (cases_order i k) [
      | inl e ↦ absurd (false≢true (sym differ ∙ eq-eqb a.0 b.0 (ap (λ x. (mask_at masks x).0) e)))
      | inr (inl less) ↦ less
      | inr (inr more) ↦ absurd (omega (arith, rising k i (record { 0 = 0 }) more low))
    ]

-- ---- the least place

module _ (passes : ℕ → Bool) (size : ℕ → ℕ) (n b : ℕ) (w : IsLeastPlace passes size n b) where
  one_least : (c : ℕ) → IsLeastPlace passes size n c → c ≡ b
  one_least c v =
      elim (cases_order c b) [
        | inl e ↦ e
        | inr (inl less) ↦ absurd (omega (arith, w.first c less v.passing, v.least b w.inside w.passing))
        | inr (inr more) ↦ absurd (omega (arith, v.first b more w.passing, w.least c v.inside v.passing))
      ]

  says : (o : Option ℕ) → MatchOption o ((k : ℕ) → k < n → passes k ≡ false) (λ c. IsLeastPlace passes size n c) → o ≡ Some b
  says None none = absurd (false≢true (sym (none b w.inside) ∙ w.passing))
  says (Some c) v = ap (λ x. Some x) (one_least c v)

pub least_found : (passes : ℕ → Bool) (size : ℕ → ℕ) (n b : ℕ) → IsLeastPlace passes size n b → least_place passes size n ≡ Some b
least_found passes size n b w = says passes size n b w (least_place passes size n) (least_says passes size n)

pub none_found : (passes : ℕ → Bool) (size : ℕ → ℕ) (n : ℕ) → ((k : ℕ) → k < n → passes k ≡ false) → least_place passes size n ≡ None
none_found passes size n none = by (least_place passes size n) (least_says passes size n)
  where
    by : (o : Option ℕ) → MatchOption o ((k : ℕ) → k < n → passes k ≡ false) (λ b. IsLeastPlace passes size n b) → o ≡ None
    by None h = refl
    by (Some b) w = absurd (false≢true (sym (none b w.inside) ∙ w.passing))
