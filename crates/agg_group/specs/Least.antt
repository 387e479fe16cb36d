-- The least of some places, by a size.
use Rattle.std.specs.Prelude.{ℕ, zero, suc, ◌<◌, ◌≤◌, Bool, true, ◌&&◌, nat_lt, if◌then◌else◌, Option, Some, None, IsTrue}

-- the place has a lesser size than the best so far
abbrev pub beats : (ℕ → ℕ) → ℕ → Option ℕ → Bool
beats size n None = true
beats size n (Some b) = nat_lt (size n) (size b)

abbrev pub better : (ℕ → ℕ) → ℕ → Bool → Option ℕ → Option ℕ
better size n passes best = if passes && beats size n best then Some n else best

-- of the places below n that pass, the one with the least size, and of several such the first; None where none passes
abbrev pub least_place : (ℕ → Bool) → (ℕ → ℕ) → ℕ → Option ℕ
least_place passes size zero = None
least_place passes size (suc n) = better size n (passes n) (least_place passes size n)

-- the same as a fact of the place b
pub record IsLeastPlace (passes : ℕ → Bool) (size : ℕ → ℕ) (n b : ℕ) : Type 0 where
  pub inside : b < n
  pub passing : IsTrue (passes b)
  pub least : (k : ℕ) → k < n → IsTrue (passes k) → size b ≤ size k
  pub first : (k : ℕ) → k < b → IsTrue (passes k) → size b < size k
