use Rattle.std.proofs.Common.{◌≡◌, drop}
use Rattle.byte_frame.specs.Spelling.{rises}
use Rattle.byte_frame.proofs.rising.rise.Given as goal

abbrev pub invariant-loop-i : goal.invariant-loop-i
invariant-loop-i g l = rises g.T.Below.below (drop l.i l.xs) ≡ rises g.T.Below.below l.xs
