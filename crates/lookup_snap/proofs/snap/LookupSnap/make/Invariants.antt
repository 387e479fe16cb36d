use Rattle.std.proofs.Common.{◌≡◌, take}
use Rattle.std.specs.BTreeMap.{IsOrdered, get}
use Rattle.cube_val.specs.Order.{row_cmp}
use Rattle.lookup_snap.specs.Snaps.{values_for}
use Rattle.lookup_snap.proofs.snap.LookupSnap.make.Given as goal

abbrev pub invariant-loop-i : goal.invariant-loop-i
invariant-loop-i l = IsOrdered row_cmp l.rows × ((q : _) → get row_cmp l.rows q ≡ values_for l.key l.cols (take l.i l.table) q)
