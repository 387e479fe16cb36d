use Rattle.std.proofs.Common.{◌≡◌, ◌++◌, take, map}
use Rattle.query_bind.specs.Needs.{rowkey_place}
use Rattle.query_bind.proofs.needs.push_foreign.Given as goal

abbrev pub invariant-loop-column : goal.invariant-loop-column
invariant-loop-column l = l.bits.items ≡ l.initial.bits.items ++ map (rowkey_place l.parts) (take l.column-index l.foreign)
