-- The mask of the first dimensions.
use Rattle.std.proofs.Common.{◌≡◌, ◌≤◌, ◌<◌, ◌+◌, ◌*◌, ◌%◌, ◌^◌, ◌∙◌, ℕ, zero, suc, Bool, true, false, cond, eqb, min, ap, arith, inl, inr}
use Rattle.std.specs.Prelude.{count_by}
use Rattle.std.specs.List.{range_with_len}
use Rattle.std.proofs.lemmas.Bool.{cases_lt}
use Rattle.std.proofs.lemmas.List.Sums.{sum_by-cons}
use Rattle.std.proofs.lemmas.Nat.{pow_below}
use Rattle.std.proofs.lemmas.Nat.Bits.{bit_at_ones, bit_at_ones_above}
use Rattle.agg_group.specs.Mask.{count_of, has}
use Rattle.layer_builder.specs.Base.{base_mask}

module _ (p : ℕ → Bool) (n : ℕ) (low : (d : ℕ) → d < n → p d ≡ true) (high : (d : ℕ) → n ≤ d → p d ≡ false) where
  one : (d : ℕ) → cond (p d) 1 0 + min n d ≡ min n (d + 1)
  one d = elim (cases_lt d n) [ inl lt ↦ ap (λ b. cond b 1 0 + min n d) (low d lt) ∙ omega arith | inr le ↦ ap (λ b. cond b 1 0 + min n d) (high d le) ∙ omega arith ]

  count_range : (a k : ℕ) → count_by p (range_with_len a k) + min n a ≡ min n (a + k)
  count_range a zero = omega arith
  count_range a (suc k) =
      let front = sum_by-cons (λ d. cond (p d) 1 0) a (range_with_len (a + 1) k) in
      let rest = count_range (a + 1) k in
      let here = one a in
      omega arith

-- it has so many dimensions
pub count_base : (n : ℕ) → n ≤ 64 → count_of (base_mask n) ≡ n
unfolding count_of
count_base n few =
    let all = count_range (has (base_mask n)) n (λ d lt. ap (λ x. eqb x 1) (bit_at_ones n d lt)) (λ d le. ap (λ x. eqb x 1) (bit_at_ones_above n d le)) 0 64 in
    omega arith

pub shifted : (n : ℕ) → n < 64 → 1 * 2 ^ n % 18446744073709551616 ≡ 2 ^ n
shifted n few = omega (arith, pow_below n 64 few)
