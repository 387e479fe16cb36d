use Rattle.std.proofs.Common.{◌≢◌, zero, suc, refl, inr, arith, [], ◌∷◌}
use Rattle.std.specs.Prelude.{All, AllPairs}
use Rattle.range_list.specs.Ranges.{Interval, IsRange, IsBefore, Holds}
use Rattle.range_list.specs.Examples.{january, february, march}
use Rattle.range_list.proofs.examples.worked_examples.Goals as goal

-- what holds of each of two ranges
of_two : (P : Interval → Type 0) (a b : Interval) → P a → P b → All P (a ∷ b ∷ [])
of_two P a b h k zero d lt = h
of_two P a b h k (suc zero) d lt = k
of_two P a b h k (suc (suc n)) d lt = absurd (omega (arith, lt))

pub returns-clause-touching : goal.returns-clause-touching
returns-clause-touching c = λ h. absurd (omega (arith, h.1))

pub returns-clause-common : goal.returns-clause-common
returns-clause-common c = (0, ((omega arith, omega arith), (omega arith, omega arith)))

pub returns-clause-end_out : goal.returns-clause-end_out
returns-clause-end_out c = λ h. absurd (omega (arith, h))

pub returns-clause-apart : goal.returns-clause-apart
returns-clause-apart c = (of_two IsRange january march (omega arith) (omega arith), pairs) where
  pairs : AllPairs IsBefore (january ∷ march ∷ [])
  pairs i zero d lt in_list = absurd (omega (arith, lt))
  pairs zero (suc zero) d lt in_list = omega arith
  pairs (suc i) (suc zero) d lt in_list = absurd (omega (arith, lt))
  pairs i (suc (suc j)) d lt in_list = absurd (omega (arith, in_list))

pub returns-clause-filled : goal.returns-clause-filled
returns-clause-filled c = (omega arith, (refl, (refl, (refl, refl))))

pub returns-clause-broken : goal.returns-clause-broken
returns-clause-broken c = λ h. absurd (omega (arith, h.1.0))

pub returns-clause-on_bounds : goal.returns-clause-on_bounds
returns-clause-on_bounds c = ((0, january, omega arith, refl, refl), (1, march, omega arith, refl, refl))

pub returns-clause-off_bounds : goal.returns-clause-off_bounds
returns-clause-off_bounds c = inr (of_two (λ s. s.end ≢ 91) january february (λ h. absurd (omega (arith, h))) (λ h. absurd (omega (arith, h))))

pub returns-clause-hole : goal.returns-clause-hole
returns-clause-hole c = record {
  inside = (omega arith, omega arith);
  free = of_two (λ s. ¬ (Holds s 31)) january march (λ h. absurd (omega (arith, h))) (λ h. absurd (omega (arith, h)));
  before = λ d low high. (0, january, omega arith, refl, (low, high));
}
