use Rattle.std.proofs.Common.{◌≡◌, take}
use Rattle.table_reader.specs.Digests.{digests_of}
use Rattle.table_reader.proofs.digest.digests_of.Given as goal

abbrev pub invariant-loop-i : goal.invariant-loop-i
invariant-loop-i l = l.digests.items ≡ digests_of l.places (take l.i l.rows)
