-- Neighbouring ranges that are worth one range.
use Rattle.std.specs.Prelude.{ℕ, ◌+◌, ◌-◌, ◌<◌, ◌≤◌, List, length, slice_index_or, Contains}
use Rattle.range_list.specs.Ranges.{Interval, AreJoined}

-- how many days a range has
abbrev pub days_of : Interval → ℕ
days_of r = r.end - r.start

abbrev pub range_at : List Interval → ℕ → Interval
range_at rs i = slice_index_or rs i (record { start = 0; end = 0 })

-- from the start of the first of so many neighbours to the end of the last
abbrev pub whole : List Interval → ℕ → ℕ → Interval
whole rs first count = record { start = (range_at rs first).start; end = (range_at rs (first + count - 1)).end }

-- A chance for t days: at least two neighbours without a hole, each shorter than t days, that together have at least t days,
-- and without the last one fewer.
pub record IsChance (rs : List Interval) (t first count : ℕ) : Type 0 where
  pub two : 2 ≤ count
  pub inside : first + count ≤ length rs
  pub joined : AreJoined rs first (first + count - 1)
  pub short : (k : ℕ) → first ≤ k → k < first + count → days_of (range_at rs k) < t
  pub enough : t ≤ days_of (whole rs first count)
  pub least : days_of (whole rs first (count - 1)) < t

-- The next ranges to be merged: of the thresholds that have a chance the greatest, and of its chances the one that starts first.
pub record IsNext (days : List ℕ) (rs : List Interval) (first count : ℕ) : Type 0 where
  pub threshold : ℕ
  pub listed : Contains days threshold
  pub chance : IsChance rs threshold first count
  pub greatest : (t f c : ℕ) → Contains days t → threshold < t → ¬ (IsChance rs t f c)
  pub earliest : (f c : ℕ) → f < first → ¬ (IsChance rs threshold f c)

-- no threshold has a chance
abbrev pub HasNoChance : List ℕ → List Interval → Type 0
HasNoChance days rs = (t first count : ℕ) → Contains days t → ¬ (IsChance rs t first count)
