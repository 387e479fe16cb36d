use Rattle.std.proofs.Common.{◌≡◌, false, take}
use Rattle.std.specs.List.{list_any}
use Rattle.table_reader.specs.Keys.{is_null}
use Rattle.lookup_snap.proofs.part.has_null.Given as goal

abbrev pub invariant-loop-i : goal.invariant-loop-i
invariant-loop-i l = list_any is_null (take l.i l.row) ≡ false
