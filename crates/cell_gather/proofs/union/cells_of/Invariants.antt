use Rattle.std.proofs.Common.{◌≡◌, ◌++◌, map}
use Rattle.cell_gather.specs.Merges.{merged_so_far}
use Rattle.cell_gather.proofs.union.cells_of.Given as goal

abbrev pub invariant-loop-merge : goal.invariant-loop-merge
invariant-loop-merge l = l.cells.items ++ map merged_so_far l.merge-iterator.rest.items ≡ map merged_so_far l.fn.merges.items
