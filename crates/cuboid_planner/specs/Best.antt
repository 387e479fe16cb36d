-- The first place with the greatest number above 0.
use Rattle.std.specs.Prelude.{◌≡◌, ℕ, ◌<◌, ◌≤◌, Option, MatchOption}
use Rattle.cuboid_planner.specs.declared.next.Best.{Best}

-- of the places below n
pub record IsBest (saved : ℕ → ℕ) (n : ℕ) (b : Best) : Type 0 where
  pub inside : b.place < n
  pub value : b.benefit ≡ saved b.place
  pub some : 0 < b.benefit
  pub greatest : (k : ℕ) → k < n → saved k ≤ b.benefit
  pub first : (k : ℕ) → k < b.place → saved k < b.benefit

-- or none, where none has a number above 0
abbrev pub IsBestSoFar : (ℕ → ℕ) → ℕ → Option Best → Type 0
IsBestSoFar saved n best = MatchOption best ((k : ℕ) → k < n → saved k ≡ 0) (λ b. IsBest saved n b)
