use Rattle.std.proofs.Common.{◌≡◌, ◌++◌, take}
use Rattle.cube_desc.specs.Kept.{own_measures}
use Rattle.cube_desc.proofs.kept.push_own.Given as goal

abbrev pub invariant-loop-measure : goal.invariant-loop-measure
invariant-loop-measure l = l.kept.items ≡ l.fn.kept.items ++ own_measures (take l.measure-index l.measures)
