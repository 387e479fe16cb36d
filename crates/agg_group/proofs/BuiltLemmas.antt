-- Lemmas on the built masks.
use Rattle.std.proofs.Common.{◌≡◌, ℕ, zero, suc, ◌+◌, ◌-◌, ◌*◌, ◌/◌, ◌%◌, ◌^◌, ◌<◌, ◌≤◌, Bool, true, false, cond, ◌||◌, eqb, List, [], ◌∷◌, ◌++◌, length, get_or, All, Contains, ◌↔◌, IsTrue, refl, sym, ap, ◌∙◌, subst, inl, inr, arith, nat_cmp, Less, Equal, Greater, le_refl}
use Rattle.std.specs.Int.{bit_at}
use Rattle.std.specs.declared.cmp.Ordering.{Ordering}
use Rattle.std.specs.BTreeSet.{insert_key}
use Rattle.std.specs.Cmp.{IsTotalOrder, on_total}
use Rattle.std.specs.FinMap.{IsAntisymmetric, nat_cmp-IsAntisymmetric}
use Rattle.std.specs.List.{flat_map, list_any}
use Rattle.std.specs.List.Sorted.{IsStrictlySortedBy}
use Rattle.std.specs.Ordering.{match_ordering}
use lib.Pow.{pow_pos}
use Rattle.std.proofs.Math.Nat.{div-add-mod', mod-lt}
use Rattle.std.proofs.lemmas.Bool.{cases_eq, cases_lt, or_cases, or_left, or_right, eqb-true, eq-eqb, false≢true, le-ltb, ne_eqb}
use Rattle.std.proofs.lemmas.Cmp.{nat_cmp_total}
use Rattle.std.proofs.lemmas.List.Elements.{All-contains, All-nil, All-cons, Contains-append_cases, Contains-append_left, Contains-append_right, Contains-get_or}
use Rattle.std.proofs.lemmas.Map.Keys.{Less-from_sorted}
use Rattle.std.proofs.lemmas.Nat.{pow_below}
use Rattle.std.proofs.lemmas.List.{get_or_default}
use Rattle.std.proofs.lemmas.Nat.Bits.{bit_at_ones, bit_at_ones_above, bit_at_above, bit_at_cat_low, bit_at-lt, same_from_bits}
use Rattle.measure_laws.specs.RisingFacts.{any-insert_key, rises-insert_key}
use Rattle.agg_group.specs.Limits.{most_dimensions}
use Rattle.agg_group.specs.declared.mask.Mask.{Mask}
use Rattle.agg_group.specs.Mask.{has, IsRising, HasBase}
use Rattle.agg_group.specs.Rules.{Rules}
use Rattle.agg_group.specs.Faults.{IsSound}
use Rattle.agg_group.specs.Units.{group_masks}
use Rattle.agg_group.specs.Built.{IsBuilt, AreOf, mask_cmp, with_masks, base_mask, built_masks, BuiltMasksAreBuilt}
use Rattle.agg_group.proofs.MaskLemmas.{mask_same}
use Rattle.agg_group.proofs.GroupLemmas.{group_masks_each}

-- ---- the order of masks
mask_total : IsTotalOrder mask_cmp
mask_total = on_total (λ (m : Mask). m.0) nat_cmp_total

mask_exact : IsAntisymmetric mask_cmp
mask_exact a b e = let mask : ℕ → Mask = λ n. record { 0 = n } in ap mask (nat_cmp-IsAntisymmetric a.0 b.0 e)

less_says : (a b : ℕ) → nat_cmp a b ≡ Less → a < b
less_says a b e =
    elim (cases_lt a b) [
      | inl less ↦ less
      | inr not_less ↦
          (let f : nat_cmp a b ≡ cond (eqb a b) Equal Greater = ap (λ t. cond t Less (cond (eqb a b) Equal Greater)) (le-ltb a b not_less) in
          elim (cases_eq a b) [
            | inl same ↦ (let g = f ∙ ap (λ t. cond t Equal Greater) (eq-eqb a b same) in absurd cc)
            | inr other ↦ (let g = f ∙ ap (λ t. cond t Equal Greater) (ne_eqb a b other) in absurd cc)
          ])
    ]

rising_says : (ms : List Mask) → IsStrictlySortedBy mask_cmp ms → IsRising ms
rising_says ms up = λ i j d lt low. less_says (get_or ms i d).0 (get_or ms j d).0 (Less-from_sorted mask_cmp ms i j d up lt low)

-- ---- masks put among rising ones
is_mask : Mask → Mask → Bool
is_mask m x = eqb x.0 m.0

any_says : (m : Mask) (xs : List Mask) → list_any (λ x. eqb x.0 m.0) xs ≡ true → Contains xs m
any_says m [] h = absurd (false≢true h)
any_says m (x ∷ xs) h =
    elim (or_cases (eqb x.0 m.0) (list_any (λ y. eqb y.0 m.0) xs) h) [
      | inl here ↦ (0, omega arith, (let mask : ℕ → Mask = λ n. record { 0 = n } in ap mask (eqb-true x.0 m.0 here)))
      | inr later ↦ (let w = any_says m xs later in (suc w.0, omega (arith, w.1), w.2))
    ]

any_from : (m : Mask) (xs : List Mask) (k : ℕ) → k < length xs → get_or xs k m ≡ m → list_any (λ x. eqb x.0 m.0) xs ≡ true
any_from m [] k low e = absurd (omega arith)
any_from m (x ∷ xs) zero low e = or_left _ _ (eq-eqb x.0 m.0 (ap (λ (y : Mask). y.0) e))
any_from m (x ∷ xs) (suc k) low e = or_right (eqb x.0 m.0) _ (any_from m xs k (omega arith) e)

any-with_masks : (t : Mask → Bool) (rising others : List Mask) → list_any t (with_masks rising others) ≡ (list_any t others || list_any t rising)
any-with_masks t rising [] = refl
any-with_masks t rising (m ∷ others) =
    any-with_masks t (insert_key mask_cmp rising m) others ∙ ap (λ b. list_any t others || b) (any-insert_key mask_total mask_exact t rising m)
    ∙ swap_or (list_any t others) (t m) (list_any t rising)
  where
    swap_or : (a b c : Bool) → (a || (b || c)) ≡ ((b || a) || c)
    swap_or true true c = refl
    swap_or true false c = refl
    swap_or false true c = refl
    swap_or false false c = refl

pub with_masks_each : (m : Mask) (others : List Mask) → Contains (with_masks [] others) m ↔ Contains others m
with_masks_each m others =
    let t : Mask → Bool = λ x. eqb x.0 m.0 in
    let same : list_any t (with_masks [] others) ≡ (list_any t others || false) = any-with_masks t [] others in (
      λ at. elim (or_cases (list_any t others) false (sym same ∙ any_from m (with_masks [] others) at.0 at.1 at.2)) [ inl h ↦ any_says m others h | inr none ↦ absurd (false≢true none) ],
      λ at. any_says m (with_masks [] others) (same ∙ or_left _ _ (any_from m others at.0 at.1 at.2)),
    )

with_masks_rise : (rising others : List Mask) → IsStrictlySortedBy mask_cmp rising → IsStrictlySortedBy mask_cmp (with_masks rising others)
with_masks_rise rising [] up = up
with_masks_rise rising (m ∷ others) up = with_masks_rise (insert_key mask_cmp rising m) others (rises-insert_key mask_total rising m up)

pub with_masks-append : (rising xs ys : List Mask) → with_masks rising (xs ++ ys) ≡ with_masks (with_masks rising xs) ys
with_masks-append rising [] ys = refl
with_masks-append rising (m ∷ xs) ys = with_masks-append (insert_key mask_cmp rising m) xs ys

put_longer : (xs : List Mask) (m : Mask) → length xs ≤ length (insert_key mask_cmp xs m)
put_longer [] m = omega arith
put_longer (x ∷ xs) m = by (mask_cmp m x) (put_longer xs m)
  where
    by : (r : Ordering) → length xs ≤ length (insert_key mask_cmp xs m) → length (x ∷ xs) ≤ length (match_ordering r (m ∷ x ∷ xs) (x ∷ xs) (x ∷ insert_key mask_cmp xs m))
    by Less h = omega arith
    by Equal h = omega arith
    by Greater h = omega arith

-- with more masks there are at least as many
pub with_masks_longer : (rising others : List Mask) → length rising ≤ length (with_masks rising others)
with_masks_longer rising [] = le_refl (length rising)
with_masks_longer rising (m ∷ others) = omega (arith, put_longer rising m, with_masks_longer (insert_key mask_cmp rising m) others)

-- ---- the base
-- `1 << n`
pub shifted_one : (n : ℕ) → n ≤ most_dimensions → 1 * 2 ^ n % 18446744073709551616 ≡ 2 ^ n
shifted_one n few = omega (arith, pow_below n 64 (omega arith))

-- a number whose one bits are below n is below 2 ^ n
below_from_bits : (n a : ℕ) → ((d : ℕ) → n ≤ d → bit_at a d ≡ 0) → a < 2 ^ n
below_from_bits n a h =
    let parts : a ≡ a / 2 ^ n * 2 ^ n + a % 2 ^ n = sym (div-add-mod' a (2 ^ n)) in
    let low : a % 2 ^ n < 2 ^ n = mod-lt a (pow_pos n) in
    let same : a ≡ a % 2 ^ n =
    same_from_bits a (a % 2 ^ n)
    (λ d. elim (cases_lt d n) [
      | inl small ↦ ap (λ x. bit_at x d) parts ∙ bit_at_cat_low (a / 2 ^ n) n (a % 2 ^ n) d small
      | inr high ↦ h d high ∙ sym (bit_at_above (a % 2 ^ n) n d low high)
    ]) in
    omega arith

zero_bit : (m : Mask) (d : ℕ) → (has m d ≡ true → ⊥) → bit_at m.0 d ≡ 0
zero_bit m d h =
    elim (cases_eq (bit_at m.0 d) 1) [ inl one ↦ absurd (h (eq-eqb (bit_at m.0 d) 1 one)) | inr ne ↦ omega (arith, bit_at-lt m.0 d) ]

base_has : (n d : ℕ) → IsTrue (has (base_mask n) d) ↔ (d < n)
base_has n d = (
  λ h. elim (cases_lt d n) [ inl low ↦ low | inr high ↦ absurd (false≢true (ap (λ x. eqb x 1) (sym (bit_at_ones_above n d high)) ∙ h)) ],
  λ low. eq-eqb (bit_at (2 ^ n - 1) d) 1 (bit_at_ones n d low),
)

is_base : (n : ℕ) (m : Mask) → ((d : ℕ) → IsTrue (has m d) ↔ (d < n)) → base_mask n ≡ m
is_base n m h = mask_same (base_mask n) m (λ d. same (has (base_mask n) d) (has m d) (λ e. (h d).1 ((base_has n d).0 e)) (λ e. (base_has n d).1 ((h d).0 e)))
  where
    same : (x y : Bool) → (x ≡ true → y ≡ true) → (y ≡ true → x ≡ true) → x ≡ y
    same true y to from = sym (to refl)
    same false true to from = from refl
    same false false to from = refl

-- ---- the masks of all groups
in_group : (groups : List Rules) (m : Mask) → Contains (flat_map group_masks groups) m → (g : Rules) × Contains groups g × Contains (group_masks g) m
in_group [] m at = absurd (omega (arith, at.1))
in_group (g ∷ groups) m at =
    elim (Contains-append_cases (group_masks g) (flat_map group_masks groups) m at) [
      | inl here ↦ (g, (0, omega arith, refl), here)
      | inr later ↦ (let w = in_group groups m later in (w.0, (suc w.1.0, omega (arith, w.1.1), w.1.2), w.2))
    ]

of_group : (groups : List Rules) (g : Rules) (m : Mask) (k : ℕ) → k < length groups → get_or groups k g ≡ g → Contains (group_masks g) m → Contains (flat_map group_masks groups) m
of_group [] g m k low e at = absurd (omega arith)
of_group (x ∷ groups) g m zero low e at = Contains-append_left (group_masks x) (flat_map group_masks groups) m (subst (λ r. Contains (group_masks r) m) (sym e) at)
of_group (x ∷ groups) g m (suc k) low e at = Contains-append_right (group_masks x) (flat_map group_masks groups) m (of_group groups g m k (omega arith) e at)

-- ---- what is built
pub built_rises : (n : ℕ) (groups : List Rules) → IsRising (built_masks n groups)
unfolding built_masks IsStrictlySortedBy
built_rises n groups = rising_says _ (with_masks_rise [] (base_mask n ∷ flat_map group_masks groups) tt)

pub built_each : (n : ℕ) (groups : List Rules) → All IsSound groups → (m : Mask) → Contains (built_masks n groups) m ↔ IsBuilt n groups (has m)
unfolding built_masks
built_each n groups sound m = (
  λ at.
      let there = (with_masks_each m (base_mask n ∷ flat_map group_masks groups)).0 at in
      elim (Contains-append_cases (base_mask n ∷ []) (flat_map group_masks groups) m there) [
        | inl base ↦ inl
            (let same : base_mask n ≡ m = All-contains (λ x. base_mask n ≡ x) (base_mask n ∷ []) m (All-cons (λ x. base_mask n ≡ x) (base_mask n) [] refl (All-nil (λ x. base_mask n ≡ x))) base in
            subst (λ (x : Mask). (d : ℕ) → IsTrue (has x d) ↔ (d < n)) same (base_has n))
        | inr later ↦ inr
            (let w = in_group groups m later in
            (w.0, w.1, (group_masks_each w.0 (All-contains IsSound groups w.0 sound w.1) m).0 w.2))
      ],
  λ w. (with_masks_each m (base_mask n ∷ flat_map group_masks groups)).1 (among w),
)
  where
    among : IsBuilt n groups (has m) → Contains (base_mask n ∷ flat_map group_masks groups) m
    among (inl base) = (0, omega arith, is_base n m base)
    among (inr w) =
        Contains-append_right (base_mask n ∷ []) (flat_map group_masks groups) m
        (of_group groups w.0 m w.1.0 w.1.1 w.1.2 ((group_masks_each w.0 (All-contains IsSound groups w.0 sound w.1) m).1 w.2))

-- each has dimensions of the cube alone
pub built_within : (n : ℕ) (groups : List Rules) → AreOf n groups → All IsSound groups → (m : Mask) → Contains (built_masks n groups) m → (d : ℕ) → has m d ≡ true → d < n
built_within n groups of sound m at d h = by ((built_each n groups sound m).0 at)
  where
    by : IsBuilt n groups (has m) → d < n
    by (inl base) = (base d).0 h
    by (inr w) = All-contains (λ x. x < n) w.0.includes d (All-contains (λ g. All (λ x. x < n) g.includes) groups w.0 of w.1) (w.2.chosen d h)

pub built_below : (n : ℕ) (groups : List Rules) → AreOf n groups → All IsSound groups → All (λ m. m.0 < 2 ^ n) (built_masks n groups)
built_below n groups of sound = λ k e low.
    let m = get_or (built_masks n groups) k e in
    below_from_bits n m.0
    (λ d high. zero_bit m d (λ h. absurd (omega (arith, built_within n groups of sound m (Contains-get_or (built_masks n groups) k e low) d h))))

pub built_are_built : BuiltMasksAreBuilt
built_are_built n groups few of sound = (built_rises n groups, built_each n groups sound)

-- the last is the base
pub last_is_base : (n : ℕ) (groups : List Rules) → AreOf n groups → All IsSound groups → (d : Mask) → get_or (built_masks n groups) (length (built_masks n groups) - 1) d ≡ base_mask n
last_is_base n groups of sound d =
    let ms = built_masks n groups in
    let at = (built_each n groups sound (base_mask n)).1 (inl (base_has n)) in
    elim (cases_eq at.0 (length ms - 1)) [
      | inl last ↦ ap (λ k. get_or ms k d) (sym last) ∙ get_or_default ms at.0 d (base_mask n) at.1 ∙ at.2
      | inr ne ↦
          (let above = built_rises n groups at.0 (length ms - 1) (base_mask n) (omega (arith, at.1)) (omega (arith, at.1)) in
          let below = built_below n groups of sound (length ms - 1) (base_mask n) (omega (arith, at.1)) in
          absurd (omega (arith, above, below, ap (λ (m : Mask). m.0) at.2)))
    ]

pub built_has_base : (n : ℕ) (groups : List Rules) → AreOf n groups → All IsSound groups → (0 < length (built_masks n groups)) × HasBase (built_masks n groups)
built_has_base n groups of sound =
    let ms = built_masks n groups in
    let at = (built_each n groups sound (base_mask n)).1 (inl (base_has n)) in (
      omega (arith, at.1),
      λ k d low e h.
          subst (λ m. IsTrue (has m e)) (sym (last_is_base n groups of sound d))
          ((base_has n e).1 (built_within n groups of sound (get_or ms k d) (Contains-get_or ms k d low) e h)),
    )
