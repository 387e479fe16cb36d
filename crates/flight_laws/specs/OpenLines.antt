-- The lines of queries without their end.
use Rattle.std.specs.Prelude.{◌≡◌, ◌≤◌, ◌<◌, ◌+◌, ◌==◌, ℕ, List, count_by}
use Rattle.run_history.specs.World.{Asked, Waiting}

module _ {Query : Type 0} where
  -- how many queries of this line wait or are in flight
  abbrev pub open_count : ℕ → List (Waiting Query) → List (Asked Query) → ℕ
  open_count line waiting asked = count_by (λ q. q.line == line) waiting + count_by (λ q. q.waiting.line == line) asked

  -- each line has one of them at most, and one behind that of the last command has none
  pub record AreOpenLines (last : ℕ) (waiting : List (Waiting Query)) (asked : List (Asked Query)) : Type 0 where
    pub each_once : (line : ℕ) → open_count line waiting asked ≤ 1
    pub taken : (line : ℕ) → last < line → open_count line waiting asked ≡ 0
