use Rattle.std.proofs.Common.{◌≡◌, drop}
use Rattle.byte_frame.specs.Spelling.{rises}
use Rattle.cube_fields.specs.Orders.{before}
use Rattle.cube_fields.proofs.order.rise.Given as goal

abbrev pub invariant-loop-i : goal.invariant-loop-i
invariant-loop-i g l = rises (before g.T.Ord.cmp) (drop l.i l.xs) ≡ rises (before g.T.Ord.cmp) l.xs
