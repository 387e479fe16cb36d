use Rattle.std.proofs.Common.{◌≡◌, map, take}
use Rattle.plain_answer.specs.Kinds.{form_of_kind}
use Rattle.layer_builder.proofs.cells.forms_of.Given as goal

abbrev pub invariant-loop-agg : goal.invariant-loop-agg
invariant-loop-agg l = l.forms.items ≡ map (λ agg. form_of_kind agg.kind) (take l.agg-index l.aggs)
