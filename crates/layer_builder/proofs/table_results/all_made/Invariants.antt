use Rattle.std.proofs.Common.{◌≡◌, Ok, map}
use Rattle.layer_builder.proofs.table_results.all_made.Given as goal

abbrev pub invariant-loop-table : goal.invariant-loop-table
invariant-loop-table l = map Ok l.tables.items ≡ l.yielded
