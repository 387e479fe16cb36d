use Rattle.std.proofs.Common.{◌-◌, ◌≤◌, ◌<◌, ℕ, length, slice_index_or}
use Rattle.range_list.specs.Ranges.{Interval}
use Rattle.range_list.proofs.list.ended_by.Given as goal

abbrev pub invariant-loop-low : goal.invariant-loop-low
invariant-loop-low l = record {
  order : l.low ≤ l.high;
  within : l.high ≤ length l.ranges;
  ended : (k : ℕ) (d : Interval) → k < l.low → (slice_index_or l.ranges k d).end ≤ l.day;
  later : (k : ℕ) (d : Interval) → l.high ≤ k → k < length l.ranges → l.day < (slice_index_or l.ranges k d).end;
}

abbrev pub decreases-loop-low : goal.decreases-loop-low
decreases-loop-low l = l.high - l.low
