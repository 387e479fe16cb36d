use Rattle.std.proofs.Common.{◌≡◌, ◌<◌, ℕ, get_or, [], false}
use Rattle.csv.specs.Records.{fields_of}
use Rattle.table_reader.specs.Columns.{names}
use Rattle.table_reader.proofs.header.place_in.Given as goal

abbrev pub invariant-loop-i : goal.invariant-loop-i
invariant-loop-i l = (k : ℕ) → k < l.i → names l.column (get_or (fields_of l.header) k []) ≡ false
