use Rattle.std.proofs.Common.{◌≡◌, ◌≤◌, ◌+◌, drop}
use Rattle.measure_laws.specs.Kinds.{dict_count}
use Rattle.cell_merge.proofs.renumbering.first_set.Given as goal

abbrev pub invariant-loop-form : goal.invariant-loop-form
invariant-loop-form l = record {
  total : l.count + dict_count (drop l.form-index l.forms) ≡ dict_count l.forms;
  few : l.count ≤ l.form-index;
}
