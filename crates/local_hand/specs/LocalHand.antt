-- What a local hand keeps.
use Rattle.std.specs.Prelude.{ℕ}

-- how many runs there were, and how many failed
pub record Counts : Type 0 where
  pub runs : ℕ
  pub faults : ℕ
