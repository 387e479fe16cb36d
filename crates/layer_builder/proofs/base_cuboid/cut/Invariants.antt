use Rattle.std.proofs.Common.{◌≡◌, ◌≤◌, ◌-◌, ◌++◌, drop, length}
use Rattle.std.specs.List.{flat_map}
use Rattle.layer_builder.proofs.base_cuboid.cut.Given as goal

abbrev pub invariant-loop-start : goal.invariant-loop-start
invariant-loop-start l = record {
  within : l.start ≤ length l.rows;
  pieces : flat_map (λ p. p.now) l.pieces.items ++ drop l.start l.rows ≡ l.rows;
}

abbrev pub decreases-loop-start : goal.decreases-loop-start
decreases-loop-start l = length l.rows - l.start
