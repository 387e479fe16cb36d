use Rattle.std.proofs.Common.{◌∙◌, ap, arith, sym}
use Rattle.fixed_cube.specs.Columns.{fact_columns, row_limit}
use Rattle.step_fields.specs.Reading.{rows_at}
use Rattle.step_fields.proofs.Exact.{exact_rows}
use Rattle.pool_check.proofs.facts.read_table.Goals as goal

pub returns-in-Ok : goal.returns-in-Ok
returns-in-Ok c = ((exact_rows fact_columns row_limit (omega arith)).takes c.args.bytes.now (c.in-Ok.table, c.read_rows.new.r) (λ i. omega (arith, c.type_inv.bytes i)) (sym (ap (rows_at fact_columns row_limit) c.new-reader.ensures) ∙ c.in-Ok.ensures)).1
