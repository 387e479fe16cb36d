-- Lemmas on a mask's bits.
use Rattle.std.proofs.Common.{◌≡◌, ℕ, zero, suc, ◌+◌, ◌/◌, ◌%◌, ◌^◌, ◌<◌, ◌≤◌, min, max, Bool, true, false, ◌||◌, cond, eqb, bit_and, List, [], ◌∷◌, refl, sym, ap, ap₂, ◌∙◌, inl, inr, arith, Decides, count_by, count_ones, Option, Some, None}
use Rattle.std.specs.Int.{bit_at}
use Rattle.std.specs.Int.Count.{ones_step, ones-le}
use Rattle.std.specs.List.{range_with_len}
use Rattle.std.proofs.Math.Nat.{pow-suc}
use Rattle.std.proofs.Math.Numerals.{add-one}
use Rattle.std.proofs.lemmas.Bool.{cases_eq, eqb-true, eq-eqb, ne_eqb, or_left, le-leb, leb-true}
use Rattle.std.proofs.lemmas.List.Sums.{sum_by-cons}
use Rattle.std.proofs.lemmas.Bool.Decides.{Decides-eqb, Decides-like, same_from_decides}
use Rattle.std.proofs.lemmas.Nat.Bits.{bit_at_and, bit_at-lt, bit_at-zero, bit_at_lowest, bit_at-suc, same_from_bits, bit_at_above, bit_at_or, bit_at-pow_same, bit_at-pow_other}
use Rattle.agg_group.specs.declared.mask.Mask.{Mask}
use Rattle.agg_group.specs.Sets.{dimensions, is_among, size_of}
use Rattle.agg_group.specs.Mask.{has, count_of, is_within, IsWithin}
use Rattle.agg_group.specs.Rules.{IsCapped}
use Rattle.agg_group.specs.Units.{joined, mask_of, is_capped}
use Rattle.agg_group.proofs.SetLemmas.{subset_decides}

-- no mask has a dimension above 63
pub has_past : (m : Mask) → m.0 < 2 ^ 64 → (d : ℕ) → 64 ≤ d → has m d ≡ false
has_past m fits d high = ap (λ x. eqb x 1) (bit_at_above m.0 64 d fits high)

pub has_none_of_zero : (d : ℕ) → has (record { 0 = 0 }) d ≡ false
has_none_of_zero d = ap (λ x. eqb x 1) (bit_at-zero d)

-- ---- a subset, by `&`
bits_within : (a b d : ℕ) → bit_and a b ≡ a → bit_at a d ≡ 1 → bit_at b d ≡ 1
bits_within a b d e one =
    let lower : min (bit_at a d) (bit_at b d) ≡ bit_at a d = sym (bit_at_and a b d) ∙ ap (λ x. bit_at x d) e in
    omega (arith, bit_at-lt b d)

min_of_bits : (x y : ℕ) → x < 2 → y < 2 → (x ≡ 1 → y ≡ 1) → min x y ≡ x
min_of_bits x y hx hy h = elim (cases_eq x 1) [ inl e ↦ omega (arith, h e) | inr ne ↦ omega arith ]

and_within : (a b : ℕ) → ((d : ℕ) → bit_at a d ≡ 1 → bit_at b d ≡ 1) → bit_and a b ≡ a
and_within a b h =
    same_from_bits (bit_and a b) a
    (λ d. bit_at_and a b d ∙ min_of_bits (bit_at a d) (bit_at b d) (bit_at-lt a d) (bit_at-lt b d) (h d))

pub and_decides : (a b : Mask) → Decides (eqb (bit_and a.0 b.0) a.0) (IsWithin a b)
and_decides a b =
    Decides-like (eqb (bit_and a.0 b.0) a.0)
    (λ e d h. eq-eqb (bit_at b.0 d) 1 (bits_within a.0 b.0 d e (eqb-true (bit_at a.0 d) 1 h)))
    (λ h. and_within a.0 b.0 (λ d one. eqb-true (bit_at b.0 d) 1 (h d (eq-eqb (bit_at a.0 d) 1 one))))
    (Decides-eqb (bit_and a.0 b.0) a.0)

pub and_is_within : (a b : Mask) → a.0 < 2 ^ 64 → eqb (bit_and a.0 b.0) a.0 ≡ is_within a b
and_is_within a b fits =
    same_from_decides (eqb (bit_and a.0 b.0) a.0) (is_within a b) (and_decides a b)
    (subset_decides (has a) (has b) (has_past a fits))

-- ---- the number of one bits
ones_among : ℕ → List ℕ → ℕ
ones_among n ds = count_by (λ d. eqb (bit_at n d) 1) ds

lowest : (x : ℕ) → x < 2 → cond (eqb x 1) 1 0 ≡ x
lowest x h = elim (cases_eq x 1) [ inl e ↦ rw e refl | inr ne ↦ (let z : x ≡ 0 = omega arith in rw z refl) ]

shifted : (n a k : ℕ) → ones_among n (range_with_len (a + 1) k) ≡ ones_among (n / 2) (range_with_len a k)
unfolding ones_among
shifted n a zero = refl
shifted n a (suc k) =
    sum_by-cons (λ d. cond (eqb (bit_at n d) 1) 1 0) (a + 1) (range_with_len (a + 1 + 1) k)
    ∙ ap₂ (λ x y. cond (eqb x 1) 1 0 + y) (ap (bit_at n) (add-one a) ∙ bit_at-suc n a) (shifted n (a + 1) k)
    ∙ sym (sum_by-cons (λ d. cond (eqb (bit_at (n / 2) d) 1) 1 0) a (range_with_len (a + 1) k))

count_is : (k n : ℕ) → n < 2 ^ k → count_ones n ≡ ones_among n (range_with_len 0 k)
unfolding ones_among
count_is zero n h = omega (arith, ones-le zero n h)
count_is (suc k) n h =
    ones_step n
    ∙ ap₂ (λ x y. x + y)
    (sym (lowest (n % 2) (omega arith)) ∙ ap (λ x. cond (eqb x 1) 1 0) (sym (bit_at_lowest n)))
    (count_is k (n / 2) (omega (arith, pow-suc 2 k)) ∙ sym (shifted n 0 k))
    ∙ sym (sum_by-cons (λ d. cond (eqb (bit_at n d) 1) 1 0) 0 (range_with_len (0 + 1) k))

pub ones_are : (m : Mask) → m.0 < 2 ^ 64 → count_ones m.0 ≡ count_of m
unfolding count_of ones_among
ones_are m fits = count_is 64 m.0 fits

-- ---- masks as sets
same_bits : (x y : ℕ) → x < 2 → y < 2 → eqb x 1 ≡ eqb y 1 → x ≡ y
same_bits x y hx hy h =
    elim (cases_eq x 1) [
      | inl e ↦ e ∙ sym (eqb-true y 1 (sym h ∙ eq-eqb x 1 e))
      | inr nx ↦ elim (cases_eq y 1) [ inl e ↦ absurd (nx (eqb-true x 1 (h ∙ eq-eqb y 1 e))) | inr ny ↦ omega arith ]
    ]

-- masks with the same dimensions are equal
pub mask_same : (a b : Mask) → ((d : ℕ) → has a d ≡ has b d) → a ≡ b
mask_same a b h =
    let mask : ℕ → Mask = λ n. record { 0 = n } in
    ap mask (same_from_bits a.0 b.0 (λ d. same_bits (bit_at a.0 d) (bit_at b.0 d) (bit_at-lt a.0 d) (bit_at-lt b.0 d) (h d)))

or_of_bits : (x y : ℕ) → x < 2 → y < 2 → eqb (max x y) 1 ≡ (eqb x 1 || eqb y 1)
or_of_bits x y hx hy =
    elim (cases_eq x 1) [
      | inl e ↦ eq-eqb (max x y) 1 (omega arith) ∙ sym (or_left (eqb x 1) (eqb y 1) (eq-eqb x 1 e))
      | inr ne ↦
          (let same : max x y ≡ y = omega arith in
          ap (λ k. eqb k 1) same ∙ ap (λ b. b || eqb y 1) (sym (ne_eqb x 1 ne)))
    ]

pub has-joined : (a b : Mask) (d : ℕ) → has (joined a b) d ≡ (has a d || has b d)
has-joined a b d =
    ap (λ x. eqb x 1) (bit_at_or a.0 b.0 d) ∙ or_of_bits (bit_at a.0 d) (bit_at b.0 d) (bit_at-lt a.0 d) (bit_at-lt b.0 d)

has_single : (x d : ℕ) → has (record { 0 = 2 ^ x }) d ≡ eqb x d
has_single x d =
    elim (cases_eq d x) [
      | inl e ↦ ap (λ k. eqb (bit_at (2 ^ x) k) 1) e ∙ eq-eqb (bit_at (2 ^ x) x) 1 (bit_at-pow_same x) ∙ sym (eq-eqb x d (sym e))
      | inr ne ↦ ap (λ k. eqb k 1) (bit_at-pow_other x d ne) ∙ sym (ne_eqb x d (λ e. ne (sym e)))
    ]

pub has-mask_of : (ds : List ℕ) (d : ℕ) → has (mask_of ds) d ≡ is_among d ds
has-mask_of [] d = has_none_of_zero d
has-mask_of (x ∷ ds) d = has-joined (record { 0 = 2 ^ x }) (mask_of ds) d ∙ ap₂ (λ a b. a || b) (has_single x d) (has-mask_of ds d)

pub mask_of_is : (m : Mask) (ds : List ℕ) → ((d : ℕ) → has m d ≡ is_among d ds) → m ≡ mask_of ds
mask_of_is m ds h = mask_same m (mask_of ds) (λ d. h d ∙ sym (has-mask_of ds d))

-- ---- the number of dimensions
at_most_more : (x y : Bool) → (x ≡ true → y ≡ true) → cond x 1 0 ≤ cond y 1 0
at_most_more true y h = let e : y ≡ true = h refl in rw e (omega arith)
at_most_more false y h = omega arith

fewer_pass : (p q : ℕ → Bool) → ((x : ℕ) → p x ≡ true → q x ≡ true) → (xs : List ℕ) → count_by p xs ≤ count_by q xs
fewer_pass p q h [] = omega arith
fewer_pass p q h (x ∷ xs) =
    omega (arith, sum_by-cons (λ y. cond (p y) 1 0) x xs, sum_by-cons (λ y. cond (q y) 1 0) x xs, at_most_more (p x) (q x) (h x), fewer_pass p q h xs)

-- a set within another has no more dimensions
pub count_within : (a b : Mask) → IsWithin a b → count_of a ≤ count_of b
unfolding count_of
count_within a b h = fewer_pass (has a) (has b) h (dimensions 64)

pub capped_within : (cap : Option ℕ) (a b : Mask) → IsWithin a b → is_capped cap b ≡ true → is_capped cap a ≡ true
capped_within None a b h k = refl
capped_within (Some most) a b h k = le-leb (count_of a) most (omega (arith, count_within a b h, leb-true (count_of b) most k))

pub capped_says : (cap : Option ℕ) (m : Mask) → is_capped cap m ≡ true → IsCapped cap (has m)
unfolding count_of size_of
capped_says None m h = tt
capped_says (Some most) m h = leb-true (count_by (has m) (dimensions 64)) most h

pub capped_tested : (cap : Option ℕ) (m : Mask) → IsCapped cap (has m) → is_capped cap m ≡ true
unfolding count_of size_of
capped_tested None m h = refl
capped_tested (Some most) m h = le-leb (count_by (has m) (dimensions 64)) most h
