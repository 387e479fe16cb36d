use Rattle.std.proofs.Common.{arith, refl}
use Rattle.step_files.proofs.writing.put_product.Goals as goal

pub put_base_table-requires-clause-blank : goal.put_base_table-requires-clause-blank
put_base_table-requires-clause-blank c = (refl, refl, omega (arith, c.new.ensures))

pub put_counted-requires-clause-blank : goal.put_counted-requires-clause-blank
put_counted-requires-clause-blank c = (refl, refl, omega (arith, c.new-in-Cells.ensures))
