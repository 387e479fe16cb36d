use Rattle.std.proofs.Common.{◌≡◌, take}
use Rattle.std.specs.Prelude.{map}
use Rattle.step_codec.specs.Layouts.{dict_form}
use Rattle.step_codec.proofs.dicts.dict_forms.Given as goal

abbrev pub invariant-loop-column : goal.invariant-loop-column
invariant-loop-column l = l.forms.items ≡ map (dict_form l.limit) (take l.column-index l.columns)
