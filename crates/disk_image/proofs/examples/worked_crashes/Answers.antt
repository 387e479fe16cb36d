use Rattle.std.proofs.Common.{◌≡◌, inl, ◌<◌, ◌≤◌, ◌+◌, ℕ, suc, zero, List, [], ◌∷◌, length, get_or, refl, subst, arith}
use Rattle.disk_image.specs.Changes.{Torn}
use Rattle.disk_image.proofs.examples.worked_crashes.Goals as goal

-- the first byte stays, whatever stands behind it
first_stays : (at n : ℕ) (image : List ℕ) → 0 < at → 1 ≤ length image → length image ≤ at + n → get_or image 0 0 ≡ 7 → Torn 1 at n (7 ∷ []) image
first_stays at n image behind some short first = record {
  same = λ i inside old outside. same i inside;
  no_shorter = some;
  no_longer = omega arith;
}
  where
    same : (i : ℕ) → i < 1 → get_or image i 0 ≡ get_or (7 ∷ []) i 0
    same zero inside = first
    same (suc i) inside = absurd (omega arith)

pub returns-clause-any : goal.returns-clause-any
returns-clause-any c = λ byte. (7 ∷ [], refl, first_stays 1 1 (7 ∷ byte ∷ []) (omega arith) (omega arith) (omega arith) refl)

pub returns-clause-none : goal.returns-clause-none
returns-clause-none c = (7 ∷ [], refl, first_stays 1 1 (7 ∷ []) (omega arith) (omega arith) (omega arith) refl)

pub returns-clause-gap : goal.returns-clause-gap
returns-clause-gap c = λ first second. (7 ∷ [], refl, first_stays 2 1 (7 ∷ first ∷ second ∷ []) (omega arith) (omega arith) (omega arith) refl)

pub returns-clause-stays : goal.returns-clause-stays
returns-clause-stays c = λ byte more left. stays byte more left.0 left.1 left.2
  where
    stays : (byte : ℕ) (more earlier : List ℕ) → earlier ≡ 7 ∷ [] → Torn 1 1 1 earlier (byte ∷ more) → byte ≡ 7
    stays byte more earlier is torn =
        let here = subst (λ (e : List ℕ). Torn 1 1 1 e (byte ∷ more)) is torn in
        here.same 0 (omega arith) (omega arith) (inl (omega arith))
