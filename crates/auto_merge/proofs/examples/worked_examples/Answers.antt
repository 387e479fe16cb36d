use Rattle.std.proofs.Common.{◌<◌, ℕ, zero, suc, [], ◌∷◌, refl, arith}
use Rattle.std.specs.Prelude.{Contains}
use Rattle.range_list.specs.Ranges.{AreJoined}
use Rattle.auto_merge.specs.Chances.{days_of, range_at, IsChance}
use Rattle.auto_merge.specs.Examples.{week, with_hole}
use Rattle.auto_merge.proofs.examples.worked_examples.Goals as goal

week_joined : AreJoined week 0 5
week_joined zero d low lt = refl
week_joined (suc zero) d low lt = refl
week_joined (suc (suc zero)) d low lt = refl
week_joined (suc (suc (suc zero))) d low lt = refl
week_joined (suc (suc (suc (suc zero)))) d low lt = refl
week_joined (suc (suc (suc (suc (suc k))))) d low lt = absurd (omega (arith, lt))

week_short : (k : ℕ) → k < 6 → days_of (range_at week k) < 6
week_short zero lt = omega arith
week_short (suc zero) lt = omega arith
week_short (suc (suc zero)) lt = omega arith
week_short (suc (suc (suc zero))) lt = omega arith
week_short (suc (suc (suc (suc zero)))) lt = omega arith
week_short (suc (suc (suc (suc (suc zero))))) lt = omega arith
week_short (suc (suc (suc (suc (suc (suc k)))))) lt = absurd (omega (arith, lt))

six_days : IsChance week 6 0 6
six_days = record {
  two = omega arith;
  inside = omega arith;
  joined = week_joined;
  short = λ k low lt. week_short k lt;
  enough = omega arith;
  least = omega arith;
}

none_above : (t : ℕ) → Contains (3 ∷ 6 ∷ []) t → 6 < t → ⊥
none_above t (zero, low, e) lt = omega (arith, e)
none_above t (suc zero, low, e) lt = omega (arith, e)
none_above t (suc (suc k), low, e) lt = omega (arith, low)

pub returns-clause-first : goal.returns-clause-first
returns-clause-first c = record {
  threshold = 6;
  listed = (1, omega arith, refl);
  chance = six_days;
  greatest = λ t f n at less _. none_above t at less;
  earliest = λ f n lt _. omega (arith, lt);
}

pub returns-clause-hole : goal.returns-clause-hole
returns-clause-hole c = λ chance. omega (arith, chance.joined 1 (record { start = 0; end = 0 }) (omega arith) (omega arith))

pair_joined : AreJoined with_hole 0 1
pair_joined zero d low lt = refl
pair_joined (suc k) d low lt = absurd (omega (arith, lt))

pair_short : (k : ℕ) → k < 2 → days_of (range_at with_hole k) < 2
pair_short zero lt = omega arith
pair_short (suc zero) lt = omega arith
pair_short (suc (suc k)) lt = absurd (omega (arith, lt))

pub returns-clause-pair : goal.returns-clause-pair
returns-clause-pair c = record {
  two = omega arith;
  inside = omega arith;
  joined = pair_joined;
  short = λ k low lt. pair_short k lt;
  enough = omega arith;
  least = omega arith;
}
