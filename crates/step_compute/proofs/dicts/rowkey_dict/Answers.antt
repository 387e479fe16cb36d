use Rattle.std.proofs.Common.{◌∙◌, List, ap, arith, length}
use Rattle.std.proofs.lemmas.List.{length-map}
use Rattle.cube_val.specs.declared.val.Val.{Val}
use Rattle.plain_answer.specs.Aggregates.{cell}
use Rattle.step_compute.proofs.dicts.rowkey_dict.Goals as goal

pub dictionary-requires : goal.dictionary-requires
dictionary-requires g c =
    let place = c.args.place in
    omega (arith, ap (λ (vs : List Val). length vs) (c.as_slice.ensures.value ∙ c.in_ok-values.ensures.values), length-map c.args.rows.now (λ (row : List Val). cell row place), c.requires)
