use Rattle.std.proofs.Common.{◌≡◌, map, take}
use Rattle.step_files.proofs.cube.forms_of.Given as goal

abbrev pub invariant-loop-measure : goal.invariant-loop-measure
invariant-loop-measure l = l.forms.items ≡ map (λ k. k.form) (take l.measure-index l.measures)
