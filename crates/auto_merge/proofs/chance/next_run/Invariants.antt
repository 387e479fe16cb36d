use Rattle.std.proofs.Common.{ℕ, ◌<◌, ◌≤◌, ◌-◌, length}
use Rattle.std.specs.Prelude.{slice_index}
use Rattle.auto_merge.specs.Chances.{IsChance}
use Rattle.auto_merge.proofs.chance.next_run.Given as goal

-- the thresholds from the last one on, so far
abbrev pub invariant-loop-i : goal.invariant-loop-i
invariant-loop-i l = (k f c : ℕ) → length l.days - l.i ≤ k → k < length l.days → ¬ (IsChance l.ranges (slice_index l.days k) f c)
