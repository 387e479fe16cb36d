use Rattle.std.proofs.Common.{ap, ◌∙◌, arith}
use Rattle.std.proofs.lemmas.List.{take_all}
use Rattle.agg_group.specs.Sets.{is_among}
use Rattle.agg_group.proofs.MaskLemmas.{mask_of_is}
use Rattle.agg_group.proofs.mask.Mask.of.Goals as goal

pub returns-clause-value : goal.returns-clause-value
returns-clause-value c =
    mask_of_is c.loop-d.mask c.args.dims.now (λ d. c.loop-d.invariant d ∙ ap (is_among d) (take_all c.loop-d.d-index c.args.dims.now (omega arith)))
