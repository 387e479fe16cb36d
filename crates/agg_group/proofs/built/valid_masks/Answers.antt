use Rattle.std.proofs.Common.{◌≡◌, ◌+◌, ◌<◌, ◌↔◌, Err, Contains, length, sym, ap, ◌∙◌, subst, arith, rules}
use Rattle.std.proofs.lemmas.List.Elements.{All-more}
use Rattle.agg_group.specs.declared.mask.Mask.{Mask}
use Rattle.agg_group.specs.Limits.{most_cuboids}
use Rattle.agg_group.specs.Mask.{has, IsRising, HasBase}
use Rattle.agg_group.specs.Faults.{IsSound}
use Rattle.agg_group.specs.Built.{IsBuilt}
use Rattle.agg_group.proofs.BuiltLemmas.{built_each, built_rises, built_has_base}
use Rattle.agg_group.proofs.ManyLemmas.{group_on, many_before, masks_of_all, sound_all}
use Rattle.agg_group.proofs.built.valid_masks.Goals as goal

pub returns-in_err-add_group-clause-too_many : goal.returns-in_err-add_group-clause-too_many
returns-in_err-add_group-clause-too_many c = λ h.
    let n = c.args.n in
    let groups = c.args.groups.now in
    let e : c.from_residual-in_err-add_group.result ≡ Err c.in_err-add_group.field-0.0 = search rules in
    let on = group_on n groups c.loop-group.group-index c.group-item.result c.loop-group.masks.keys c.loop-group-test.true c.group-item.is c.loop-group.invariant.0 in
    many_before n groups (c.loop-group.group-index + 1) most_cuboids
    (subst (λ ms. most_cuboids < length ms) on (c.add_group.ensures.too_many (cc (c.in_err-add_group.was, sym e ∙ h))))

pub loop-group-preserved : goal.loop-group-preserved
loop-group-preserved c =
    let n = c.args.n in
    let groups = c.args.groups.now in (
      c.in_ok-add_group.ensures.ok
          ∙ group_on n groups c.loop-group.group-index c.group-item.result c.loop-group.masks.keys c.loop-group-test.true c.group-item.is c.loop-group.invariant.0,
      c.in_ok-add_group.ensures.at_most,
      All-more IsSound groups c.loop-group.group-index c.group-item.result c.loop-group-test.true c.loop-group.invariant.2 (subst IsSound c.group-item.is c.add_group.ensures.sound),
    )

pub returns-clause-each : goal.returns-clause-each
returns-clause-each c =
    let groups = c.args.groups.now in
    let made : c.in_ok-rising.rising.items ≡ c.loop-group.masks.keys = search rules in
    let all = made ∙ masks_of_all c.args.n groups c.loop-group.group-index c.loop-group.masks.keys c.loop-group-test.false c.loop-group.invariant.0 in
    subst (λ ms. (m : Mask) → Contains ms m ↔ IsBuilt c.args.n groups (has m)) (sym all) (built_each c.args.n groups (sound_all groups c.loop-group.group-index c.loop-group-test.false c.loop-group.invariant.2))

pub returns-clause-rising : goal.returns-clause-rising
returns-clause-rising c =
    let groups = c.args.groups.now in
    let made : c.in_ok-rising.rising.items ≡ c.loop-group.masks.keys = search rules in
    let all = made ∙ masks_of_all c.args.n groups c.loop-group.group-index c.loop-group.masks.keys c.loop-group-test.false c.loop-group.invariant.0 in
    subst (λ ms. IsRising ms) (sym all) (built_rises c.args.n groups)

pub returns-clause-base : goal.returns-clause-base
returns-clause-base c =
    let groups = c.args.groups.now in
    let made : c.in_ok-rising.rising.items ≡ c.loop-group.masks.keys = search rules in
    let all = made ∙ masks_of_all c.args.n groups c.loop-group.group-index c.loop-group.masks.keys c.loop-group-test.false c.loop-group.invariant.0 in
    let base = built_has_base c.args.n groups c.requires.included (sound_all groups c.loop-group.group-index c.loop-group-test.false c.loop-group.invariant.2) in
    (omega (arith, ap length all, base.0, c.in_ok-rising.rising.ok.0), subst (λ ms. HasBase ms) (sym all) base.1)

pub returns-clause-ok : goal.returns-clause-ok
returns-clause-ok c =
    let made : c.in_ok-rising.rising.items ≡ c.loop-group.masks.keys = search rules in
    made ∙ masks_of_all c.args.n c.args.groups.now c.loop-group.group-index c.loop-group.masks.keys c.loop-group-test.false c.loop-group.invariant.0

pub returns-clause-at_most : goal.returns-clause-at_most
returns-clause-at_most c =
    let made : c.in_ok-rising.rising.items ≡ c.loop-group.masks.keys = search rules in
    omega (arith, ap length made, c.loop-group.invariant.1, c.in_ok-rising.rising.ok.0)
