use Rattle.std.proofs.Common.{◌≡◌, take, map}
use Rattle.cube_desc.specs.Resolve.{measure_of}
use Rattle.cube_desc.proofs.resolve.measure_descs.Given as goal

abbrev pub invariant-loop-measure : goal.invariant-loop-measure
invariant-loop-measure l = l.measures ≡ map (measure_of l.raw) (take l.measure-index l.measure-items)
