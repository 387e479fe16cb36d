use Rattle.std.proofs.Common.{take}
use Rattle.flat_join.specs.Joins.{lookups_of}
use Rattle.flat_join.specs.Partners.{AreServed}
use Rattle.flat_join.proofs.snaps.snaps_of.Given as goal

abbrev pub invariant-loop-i : goal.invariant-loop-i
invariant-loop-i l = AreServed (take l.i l.joins) (take l.i (lookups_of l.tables)) l.snaps.items
