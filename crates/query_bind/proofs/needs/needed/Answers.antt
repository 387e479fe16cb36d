use Rattle.std.proofs.Common.{sym, ap, subst, ◌∙◌}
use Rattle.agg_group.specs.Rules.{AreDimensions}
use Rattle.agg_group.specs.Sets.{is_among}
use Rattle.query_bind.proofs.WithinFacts.{dimensions, within}
use Rattle.query_bind.proofs.needs.needed.Goals as goal

pub of-requires : goal.of-requires
of-requires c =
    let s = c.args.scope.now in
    subst AreDimensions (sym (c.as_slice.ensures.value ∙ c.in_ok-bits.ensures)) (dimensions s.parts.now c.requires.some s.query.now c.requires.few)

pub returns-clause-within : goal.returns-clause-within
returns-clause-within c =
    let s = c.args.scope.now in
    within s.parts.now c.requires.some s.query.now c.of.result (λ d. c.of.ensures.set d ∙ ap (is_among d) (c.as_slice.ensures.value ∙ c.in_ok-bits.ensures))
