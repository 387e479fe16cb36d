use Rattle.std.proofs.Common.{◌≡◌, ◌++◌, drop}
use Rattle.step_codec.specs.Layouts.{fields_of}
use Rattle.step_codec.proofs.layers.fields_of.Given as goal

abbrev pub invariant-loop-form : goal.invariant-loop-form
invariant-loop-form l = l.fields.items ++ fields_of l.left (drop l.form-index l.measures) ≡ fields_of l.sizes l.measures
