use Rattle.std.proofs.Common.{◌≡◌, take}
use Rattle.cube_desc.proofs.desc.copied_cols.Given as goal

abbrev pub invariant-loop-col : goal.invariant-loop-col
invariant-loop-col l = l.copies ≡ take l.col-index l.cols
