use Rattle.std.proofs.Common.{◌≡◌, drop}
use Rattle.step_codec.specs.Bodies.{holds}
use Rattle.step_codec.proofs.dicts.holds.Given as goal

abbrev pub invariant-loop-i : goal.invariant-loop-i
invariant-loop-i l = holds (drop l.i l.columns) (drop l.i l.dicts) l.row ≡ holds l.columns l.dicts l.row
