use Rattle.std.proofs.Common.{arith, refl}
use Rattle.step_files.proofs.writing.put_layer.Goals as goal

pub put_counted-requires-clause-blank : goal.put_counted-requires-clause-blank
put_counted-requires-clause-blank c = (refl, refl, omega (arith, c.new.ensures))
