use Rattle.std.proofs.Common.{◌≡◌, ◌++◌, map, take}
use Rattle.cube_desc.specs.Kept.{known_count}
use Rattle.cube_desc.proofs.kept.push_known.Given as goal

abbrev pub invariant-loop-w : goal.invariant-loop-w
invariant-loop-w l = l.kept.items ≡ l.fn.kept.items ++ map known_count (take l.w-index l.columns)
