-- The first fate of an attempt, as the fault that it meets.
use Rattle.std.proofs.Common.{◌≡◌, ◌==◌, ◌&&◌, ℕ, List, [], ◌∷◌, map, Bool, true, false, cond, refl, Some}
use Rattle.std.specs.Prelude.{find, option_map}
use Rattle.outside.specs.Fates.{fail_of, fate_for, fault_of}
use Rattle.outside.specs.Hands.{fault_for, is_fail_of}
use Rattle.outside.specs.declared.fate.Fated.{Fated}

pub fault_for-fates : (job attempt : ℕ) (fates : List Fated) → fault_for job attempt (map fail_of fates) ≡ option_map fault_of (fate_for job attempt fates)
fault_for-fates job attempt [] = refl
fault_for-fates job attempt (fated ∷ fates) = by ((fated.job == job) && (fated.attempt == attempt)) (fault_for-fates job attempt fates)
  where
    by : (found : Bool) → fault_for job attempt (map fail_of fates) ≡ option_map fault_of (fate_for job attempt fates)
        → option_map (λ fail. fail.fault) (cond found (Some (fail_of fated)) (find (is_fail_of job attempt) (map fail_of fates)))
        ≡ option_map fault_of (option_map (λ (f : Fated). f.fate) (cond found (Some fated) (find (λ f. (f.job == job) && (f.attempt == attempt)) fates)))
    by true h = refl
    by false h = h
