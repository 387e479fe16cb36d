use Rattle.std.proofs.Common.{◌≡◌, drop}
use Rattle.agg_group.specs.Faults.{has_repeat}
use Rattle.agg_group.proofs.lists.has_repeat.Given as goal

abbrev pub invariant-loop-i : goal.invariant-loop-i
invariant-loop-i l = has_repeat (drop l.i l.dims) ≡ has_repeat l.dims
