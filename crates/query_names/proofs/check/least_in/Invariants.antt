-- What is found so far is the least of the items so far.
use Rattle.std.proofs.Common.{◌≡◌, take}
use Rattle.std.specs.List.{flat_map}
use Rattle.query_names.specs.Least.{least}
use Rattle.query_names.proofs.check.least_in.Given as goal

abbrev pub invariant-loop-item : goal.invariant-loop-item
invariant-loop-item g l = l.found ≡ least (flat_map (g.C.Check.failing l.check) (take l.item-index l.items))
