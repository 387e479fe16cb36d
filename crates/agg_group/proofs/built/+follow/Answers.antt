use Rattle.std.proofs.Common.{◌≡◌, ◌<◌, ◌∷◌, Err, length, sym, ap, ◌∙◌, subst, rules}
use Rattle.agg_group.specs.Limits.{most_cuboids}
use Rattle.agg_group.specs.UnitLists.{steps_of}
use Rattle.agg_group.proofs.FollowLemmas.{left_out, all_masks, step_on, step_above, no_step, step_many}
use Rattle.agg_group.proofs.built.+follow.Goals as goal

pub returns-in_err-follow-clause-too_many : goal.returns-in_err-follow-clause-too_many
returns-in_err-follow-clause-too_many t c = λ h.
    let e : c.from_residual.result ≡ Err c.in_err-follow.field-0.0 = search rules in
    let split : c.args.units.now ≡ c.in-Some.unit.now ∷ c.in-Some.later.now = search rules in
    left_out c.args.cap c.in-Some.unit.now.items (steps_of c.in-Some.later.now) most_cuboids (steps_of c.args.units.now) c.args.masks.now.keys c.args.mask (ap steps_of split)
    (c.follow.ensures.too_many (c.in_err-follow.was ∙ sym e ∙ h))

pub returns-then-not-is_capped-clause-ok : goal.returns-then-not-is_capped-clause-ok
returns-then-not-is_capped-clause-ok t c =
    let split : c.args.units.now ≡ c.in-Some.unit.now ∷ c.in-Some.later.now = search rules in
    let items = c.deref-step-items.result.now in
    let later = steps_of c.in-Some.later.now in
    sym (step_above c.args.cap items later c.loop-step.step-index c.loop-step.taken _ c.joined-taken.result c.loop-step.masks.keys c.loop-step-test.true c.joined-taken.ensures
    (sym c.is_capped.ensures ∙ c.if-not-is_capped.true))
    ∙ c.loop-step.invariant.0
    ∙ all_masks c.args.cap items later (steps_of c.args.units.now) c.args.masks.now.keys c.follow.new.masks.keys c.args.mask
    (ap steps_of split ∙ ap (λ l. l ∷ later) (sym c.deref-step-items.ensures.value)) c.in_ok-follow.ensures.ok

pub returns-in_err-follow-2-clause-too_many : goal.returns-in_err-follow-2-clause-too_many
returns-in_err-follow-2-clause-too_many t c = λ h.
    let e : c.from_residual-in_err-follow-2.result ≡ Err c.in_err-follow-2.field-0.0 = search rules in
    let split : c.args.units.now ≡ c.in-Some.unit.now ∷ c.in-Some.later.now = search rules in
    let items = c.deref-step-items.result.now in
    let later = steps_of c.in-Some.later.now in
    subst (λ ms. most_cuboids < length ms)
    (c.loop-step.invariant.0
    ∙ all_masks c.args.cap items later (steps_of c.args.units.now) c.args.masks.now.keys c.follow.new.masks.keys c.args.mask
    (ap steps_of split ∙ ap (λ l. l ∷ later) (sym c.deref-step-items.ensures.value)) c.in_ok-follow.ensures.ok)
    (step_many c.args.cap items later most_cuboids c.loop-step.step-index c.loop-step.taken _ c.joined-taken.result c.loop-step.masks.keys c.loop-step-test.true c.joined-taken.ensures
    (sym c.is_capped.ensures ∙ c.if-not-is_capped.false)
    (c.follow-in-loop-step.ensures.too_many (c.in_err-follow-2.was ∙ sym e ∙ h)))

pub loop-step-preserved : goal.loop-step-preserved
loop-step-preserved t c = (
  step_on c.args.cap c.deref-step-items.result.now (steps_of c.in-Some.later.now) c.loop-step.step-index c.loop-step.taken _ c.joined-taken.result c.loop-step.masks.keys
      c.follow-in-loop-step.new.masks.keys c.loop-step-test.true c.joined-taken.ensures (sym c.is_capped.ensures ∙ c.if-not-is_capped.false) c.in_ok-follow-2.ensures.ok
      ∙ c.loop-step.invariant.0,
  c.in_ok-follow-2.ensures.at_most,
)

pub returns-clause-ok : goal.returns-clause-ok
returns-clause-ok t c =
    let split : c.args.units.now ≡ c.in-Some.unit.now ∷ c.in-Some.later.now = search rules in
    let items = c.deref-step-items.result.now in
    let later = steps_of c.in-Some.later.now in
    sym (no_step c.args.cap items later c.loop-step.step-index c.loop-step.taken c.loop-step.masks.keys c.loop-step-test.false)
    ∙ c.loop-step.invariant.0
    ∙ all_masks c.args.cap items later (steps_of c.args.units.now) c.args.masks.now.keys c.follow.new.masks.keys c.args.mask
    (ap steps_of split ∙ ap (λ l. l ∷ later) (sym c.deref-step-items.ensures.value)) c.in_ok-follow.ensures.ok
