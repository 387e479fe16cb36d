-- Which ranges are older than what is retained.
use Rattle.std.specs.Prelude.{ℕ, ◌+◌, ◌-◌, Bool, ◌&&◌, not, nat_lt, nat_le, List, filter, length}
use Rattle.range_list.specs.Ranges.{Interval}
use Rattle.auto_merge.specs.Chances.{range_at}

-- the end of the last range; 0 without one
abbrev pub last_end : List Interval → ℕ
last_end rs = (range_at rs (length rs - 1)).end

-- Where some days are retained, a range that ends so many days or more before the last end is expired.
abbrev pub is_expired : ℕ → ℕ → Interval → Bool
is_expired retain last r = nat_lt 0 retain && nat_le (r.end + retain) last

-- the ranges that are expired, and those that are kept
abbrev pub expired : ℕ → List Interval → List Interval
expired retain rs = filter (is_expired retain (last_end rs)) rs

abbrev pub kept : ℕ → List Interval → List Interval
kept retain rs = filter (λ r. not (is_expired retain (last_end rs) r)) rs
