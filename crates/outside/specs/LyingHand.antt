-- What a hand keeps that cuts its products.
use Rattle.std.specs.Prelude.{◌-◌, ℕ, List, length, take}

-- how many bytes it cuts, and the counts
pub record LyingState : Type 0 where
  pub cut : ℕ
  pub runs : ℕ
  pub faults : ℕ

-- the bytes without so many at their end
abbrev pub without_last : ℕ → List ℕ → List ℕ
without_last cut bytes = take (length bytes - cut) bytes
