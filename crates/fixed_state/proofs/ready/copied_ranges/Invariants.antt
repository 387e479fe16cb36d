use Rattle.std.proofs.Common.{◌≡◌, take}
use Rattle.fixed_state.proofs.ready.copied_ranges.Given as goal

abbrev pub invariant-loop-place : goal.invariant-loop-place
invariant-loop-place l = l.copied ≡ take l.place l.ranges
