use Rattle.std.proofs.Common.{◌≡◌, take}
use Rattle.table_reader.specs.Keys.{key_of}
use Rattle.flat_join.proofs.partner.key_of.Given as goal

abbrev pub invariant-loop-place : goal.invariant-loop-place
invariant-loop-place l = l.vals.items ≡ key_of (take l.place-index l.places) l.row
