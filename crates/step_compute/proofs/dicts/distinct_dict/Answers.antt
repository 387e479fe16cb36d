use Rattle.std.proofs.Common.{◌∙◌, List, Some, ap, arith, length}
use Rattle.cube_val.specs.declared.val.Val.{Val}
use Rattle.plain_answer.proofs.AggregateLemmas.{length-known_values}
use Rattle.step_compute.proofs.dicts.distinct_dict.Goals as goal

pub dictionary-requires : goal.dictionary-requires
dictionary-requires g c =
    omega (arith, ap (λ (vs : List Val). length vs) (c.as_slice.ensures.value ∙ c.in_ok-values.ensures.values), length-known_values (Some c.args.place) c.args.rows.now, c.requires)
