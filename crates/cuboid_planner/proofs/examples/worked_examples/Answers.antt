use Rattle.std.proofs.Common.{◌≡◌, ◌≤◌, ◌<◌, ℕ, zero, suc, [], ◌∷◌, refl, arith}
use Rattle.agg_group.specs.Sets.{is_subset}
use Rattle.cuboid_planner.specs.Sizes.{size_at}
use Rattle.cuboid_planner.specs.Costs.{benefit}
use Rattle.cuboid_planner.specs.Examples.{three, first_alone, second_alone, both, first_pick, second_pick}
use Rattle.cuboid_planner.proofs.examples.worked_examples.Goals as goal

-- a fact of each of the three cuboids
of_three : (P : ℕ → Type 0) → P 0 → P 1 → P 2 → (k : ℕ) → k < 3 → P k
of_three P a b c zero lt = a
of_three P a b c (suc zero) lt = b
of_three P a b c (suc (suc zero)) lt = c
of_three P a b c (suc (suc (suc k))) lt = absurd (omega (arith, lt))

at_first : benefit three [] first_alone ≡ 1
unfolding is_subset
at_first = refl

at_second : benefit three [] second_alone ≡ 1
unfolding is_subset
at_second = refl

at_both : benefit three [] both ≡ 0
unfolding is_subset
at_both = refl

then_first : benefit three (first_pick ∷ []) first_alone ≡ 0
unfolding is_subset
then_first = refl

then_second : benefit three (first_pick ∷ []) second_alone ≡ 1
unfolding is_subset
then_second = refl

then_both : benefit three (first_pick ∷ []) both ≡ 0
unfolding is_subset
then_both = refl

pub returns : goal.returns
unfolding is_subset
returns c = record {
  base = refl;
  chosen = refl;
  saved = refl;
  none_saved = refl;
  all = refl;
  first = record {
    place = 0;
    inside = omega arith;
    mask = refl;
    rows = refl;
    saved = refl;
    some = omega arith;
    greatest = of_three (λ k. benefit three [] (size_at three k) ≤ 1) (omega (arith, at_first)) (omega (arith, at_second)) (omega (arith, at_both));
    least = of_three (λ k. benefit three [] (size_at three k) ≡ 1 → 1 ≤ (size_at three k).mask.0) (λ _. omega arith) (λ _. omega arith) (λ _. omega arith);
    all = refl;
  };
  next = record {
    place = 1;
    inside = omega arith;
    mask = refl;
    rows = refl;
    saved = refl;
    some = omega arith;
    greatest = of_three (λ k. benefit three (first_pick ∷ []) (size_at three k) ≤ 1) (omega (arith, then_first)) (omega (arith, then_second)) (omega (arith, then_both));
    least = of_three (λ k. benefit three (first_pick ∷ []) (size_at three k) ≡ 1 → 2 ≤ (size_at three k).mask.0) (λ e. absurd (omega (arith, e, then_first))) (λ _. omega arith) (λ _. omega arith);
    all = refl;
  };
  ended = of_three (λ k. benefit three (first_pick ∷ second_pick ∷ []) (size_at three k) ≡ 0) refl refl refl;
}
