use Rattle.cuboid_tree.proofs.Walk.{HaveMore}
use Rattle.cuboid_tree.proofs.nearest.nearest.Given as goal

abbrev pub invariant-loop-dims : goal.invariant-loop-dims
invariant-loop-dims l = HaveMore l.masks l.i l.dims
