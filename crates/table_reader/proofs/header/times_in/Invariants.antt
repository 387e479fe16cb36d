use Rattle.std.proofs.Common.{◌≡◌, take}
use Rattle.std.specs.Prelude.{count_by}
use Rattle.csv.specs.Records.{fields_of}
use Rattle.table_reader.specs.Columns.{names}
use Rattle.table_reader.proofs.header.times_in.Given as goal

abbrev pub invariant-loop-i : goal.invariant-loop-i
invariant-loop-i l = l.times ≡ count_by (names l.column) (take l.i (fields_of l.header))
