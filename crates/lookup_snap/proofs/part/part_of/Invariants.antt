use Rattle.std.proofs.Common.{◌≡◌, take}
use Rattle.table_reader.specs.Keys.{key_of}
use Rattle.lookup_snap.proofs.part.part_of.Given as goal

abbrev pub invariant-loop-i : goal.invariant-loop-i
invariant-loop-i l = l.vals.items ≡ take l.i (key_of l.places l.row)
