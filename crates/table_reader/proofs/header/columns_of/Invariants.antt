use Rattle.std.proofs.Common.{◌≡◌, ◌++◌, drop}
use Rattle.csv.specs.Records.{fields_of}
use Rattle.table_reader.specs.Columns.{columns_in, columns_of}
use Rattle.table_reader.proofs.header.columns_of.Given as goal

abbrev pub invariant-loop-i : goal.invariant-loop-i
invariant-loop-i l = l.columns.items ++ columns_in (fields_of l.header) (drop l.i l.form.cols) (drop l.i l.form.no_null) ≡ columns_of l.form (fields_of l.header)
