use Rattle.std.proofs.Common.{◌≡◌, take, map}
use Rattle.cube_desc.specs.Resolve.{join_of}
use Rattle.cube_desc.proofs.resolve.join_steps.Given as goal

abbrev pub invariant-loop-lookup : goal.invariant-loop-lookup
invariant-loop-lookup l = l.joins ≡ map (join_of l.raw) (take l.lookup-index l.lookup-items)
