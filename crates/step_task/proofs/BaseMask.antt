-- The mask of all dimensions: its dimensions are the first.
use Rattle.std.proofs.Common.{◌≡◌, ◌≤◌, ◌<◌, ◌+◌, ◌∙◌, ℕ, zero, suc, Bool, true, false, cond, eqb, List, [], ◌∷◌, filter, refl, ap, arith}
use Rattle.std.specs.Prelude.{map, slice_index_or}
use Rattle.std.specs.List.{range_with_len}
use Rattle.std.proofs.lemmas.Nat.Bits.{bit_at_ones, bit_at_ones_above}
use Rattle.agg_group.specs.Mask.{has}
use Rattle.agg_group.specs.Sets.{dimensions}
use Rattle.cube_fields.specs.Cells.{dims_in, sizes_in}
use Rattle.layer_builder.specs.Base.{base_mask}

module _ (p : ℕ → Bool) (n : ℕ) (low : (d : ℕ) → d < n → p d ≡ true) (high : (d : ℕ) → n ≤ d → p d ≡ false) where
  none_high : (a k : ℕ) → n ≤ a → filter p (range_with_len a k) ≡ []
  none_high a zero le = refl
  none_high a (suc k) le = let rest = filter p (range_with_len (a + 1) k) in ap (λ b. cond b (a ∷ rest) rest) (high a le) ∙ none_high (a + 1) k (omega arith)

  filter_range : (a k m : ℕ) → a + m ≡ n → m ≤ k → filter p (range_with_len a k) ≡ range_with_len a m
  filter_range a k zero e le = none_high a k (omega arith)
  filter_range a zero (suc m) e le = absurd (omega arith)
  filter_range a (suc k) (suc m) e le =
      let rest = filter p (range_with_len (a + 1) k) in ap (λ b. cond b (a ∷ rest) rest) (low a (omega arith)) ∙ ap (λ l. a ∷ l) (filter_range (a + 1) k m (omega arith) (omega arith))

dims_in_base : (n : ℕ) → n ≤ 64 → dims_in (base_mask n) ≡ dimensions n
unfolding dims_in
dims_in_base n few =
    filter_range (has (base_mask n)) n (λ d lt. ap (λ x. eqb x 1) (bit_at_ones n d lt)) (λ d le. ap (λ x. eqb x 1) (bit_at_ones_above n d le)) 0 64 n (omega arith) few

-- the sizes of the dictionaries of all dimensions
pub sizes_in_base : (n : ℕ) (sizes : List ℕ) → n ≤ 64 → sizes_in sizes (base_mask n) ≡ map (λ d. slice_index_or sizes d 0) (dimensions n)
unfolding sizes_in
sizes_in_base n sizes few = ap (map (λ d. slice_index_or sizes d 0)) (dims_in_base n few)
