-- What a hand that starts programs, and who asks these to stop, keep.
use Rattle.std.specs.Prelude.{ℕ, List}

-- the path of the program that is started, and the counts
pub record ProcState : Type 0 where
  pub program : List ℕ
  pub runs : ℕ
  pub faults : ℕ

-- the counts of a stopper
pub record StopperState : Type 0 where
  pub asks : ℕ
  pub faults : ℕ
