use Rattle.std.specs.List.{flat_map}
use Rattle.query_names.specs.Parts.{of_columns}
use Rattle.query_names.specs.Names.{from_no_table, join_no_table, column_no_table}
use Rattle.query_names.proofs.LeastLemmas.{least_of_three}
use Rattle.query_names.proofs.names.no_table_place.Goals as goal

pub returns : goal.returns
returns c =
    let s = c.args.scope.now in
    least_of_three (from_no_table s.parts.now s.query.now) (flat_map (join_no_table s.parts.now) s.query.now.joins) (of_columns (column_no_table s.query.now) s.query.now) _ _ _ _ _
    c.from_no_table.ensures (rw c.as_slice.ensures at c.least_in-joined.ensures) c.least_of_columns-columns.ensures c.lesser.ensures c.lesser-2.ensures
