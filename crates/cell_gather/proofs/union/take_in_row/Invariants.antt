use Rattle.std.proofs.Common.{◌≡◌, ◌++◌, drop, map, take}
use Rattle.cell_gather.specs.Merges.{merged_cells, merged_so_far}
use Rattle.cell_gather.proofs.union.take_in_row.Given as goal

abbrev pub invariant-loop-k : goal.invariant-loop-k
invariant-loop-k l = map merged_so_far l.merges ≡ merged_cells (take l.k (map merged_so_far l.fn.merges)) (take l.k l.others) ++ drop l.k (map merged_so_far l.fn.merges)
