-- Cuboids that stand each at its place.
use Rattle.std.proofs.Common.{◌≡◌, ◌≤◌, ◌<◌, ◌+◌, ◌-◌, ℕ, zero, suc, ap, subst, arith, List, length}
use Rattle.std.specs.Prelude.{AllPairs}
use Rattle.std.proofs.lemmas.List.{get_or_default}
use Rattle.agg_group.specs.Limits.{most_cuboids}
use Rattle.agg_group.specs.Mask.{IsWithin}
use Rattle.cuboid_planner.specs.declared.cuboid.Size.{Size}
use Rattle.cuboid_planner.specs.Sizes.{AreSizes, most_rows, size_at, base_of}
use Rattle.cuboid_planner.specs.Valid.{IsInPlace}

abbrev nothing : Size
nothing = record { mask = record { 0 = 0 }; rows = 0 }

-- a list of cuboids has each at its place
pub each_in_place : (sizes : List Size) → AreSizes sizes → (k : ℕ) → k < length sizes → IsInPlace sizes k
each_in_place sizes h k k_in = record {
  small = h.small k nothing k_in;
  within = h.base k nothing k_in;
  above = λ some. h.rising (k - 1) k nothing (omega arith) k_in;
}

-- and where each is at its place, it is one
module _ (sizes : List Size) (h : (k : ℕ) → k < length sizes → IsInPlace sizes k) where
  rise : (i n : ℕ) → i + suc n < length sizes → (size_at sizes i).mask.0 < (size_at sizes (i + suc n)).mask.0
  rise i zero j_in =
      let before : i + 1 - 1 ≡ i = omega arith in
      subst (λ (k : ℕ). (size_at sizes k).mask.0 < (size_at sizes (i + 1)).mask.0) before ((h (i + 1) j_in).above (omega arith))
  rise i (suc n) j_in =
      let before : i + suc (suc n) - 1 ≡ i + suc n = omega arith in
      omega (arith, rise i n (omega arith), subst (λ (k : ℕ). (size_at sizes k).mask.0 < (size_at sizes (i + suc (suc n))).mask.0) before ((h (i + suc (suc n)) j_in).above (omega arith)))

  pairs : AllPairs (λ (a b : Size). a.mask.0 < b.mask.0) sizes
  pairs i j d lt j_in =
      let there : i + suc (j - i - 1) ≡ j = omega arith in
      let less = subst (λ (k : ℕ). (size_at sizes i).mask.0 < (size_at sizes k).mask.0) there (rise i (j - i - 1) (omega arith)) in
      omega (arith, less, ap (λ (s : Size). s.mask.0) (get_or_default sizes i d nothing (omega arith)), ap (λ (s : Size). s.mask.0) (get_or_default sizes j d nothing j_in))

  pub all_in_place : 0 < length sizes → length sizes ≤ most_cuboids → AreSizes sizes
  all_in_place some few = record {
    some = some;
    few = few;
    rising = pairs;
    base = λ k d k_in. subst (λ (s : Size). IsWithin s.mask (base_of sizes).mask) (get_or_default sizes k nothing d k_in) (h k k_in).within;
    small = λ k d k_in. subst (λ (s : Size). s.rows ≤ most_rows) (get_or_default sizes k nothing d k_in) (h k k_in).small;
  }
