use Rattle.std.proofs.Common.{◌<◌, ℕ}
use Rattle.cuboid_planner.specs.Valid.{IsInPlace}
use Rattle.cuboid_planner.proofs.valid.are_sizes.Given as goal

abbrev pub invariant-loop-place : goal.invariant-loop-place
invariant-loop-place l = (k : ℕ) → k < l.place → IsInPlace l.sizes k
