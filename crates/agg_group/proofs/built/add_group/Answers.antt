use Rattle.std.proofs.Common.{◌≡◌, ◌<◌, length, sym, ap, ◌∙◌, subst, rules}
use Rattle.std.specs.Prelude.{OnOk}
use Rattle.agg_group.specs.Limits.{most_cuboids}
use Rattle.agg_group.specs.Units.{mask_units, units_of}
use Rattle.agg_group.specs.UnitLists.{steps_of}
use Rattle.agg_group.specs.Built.{with_masks}
use Rattle.agg_group.proofs.GroupLemmas.{above_cap, below_cap}
use Rattle.agg_group.proofs.built.add_group.Goals as goal

pub returns-then-not-is_capped-clause-ok : goal.returns-then-not-is_capped-clause-ok
returns-then-not-is_capped-clause-ok c =
    ap (with_masks c.args.masks.now.keys)
    (sym (above_cap c.args.group.now c.cap-cap.result c.mandatory_mask-mandatory.result c.cap-cap.ensures c.mandatory_mask-mandatory.ensures (sym c.is_capped.ensures ∙ c.if-not-is_capped.true)))

pub returns-clause-ok : goal.returns-clause-ok
returns-clause-ok c =
    let made : steps_of c.in_ok-units.units.items ≡ mask_units (units_of c.args.group.now) = search rules in
    let same = below_cap c.args.group.now c.cap-cap.result c.mandatory_mask-mandatory.result (steps_of c.as_slice.result.now) c.cap-cap.ensures c.mandatory_mask-mandatory.ensures
    (ap steps_of c.as_slice.ensures.value ∙ made) (sym c.is_capped.ensures ∙ c.if-not-is_capped.false) in
    subst (λ ms. OnOk c.follow.result (c.follow.new.masks.keys ≡ with_masks c.args.masks.now.keys ms)) (sym same) c.follow.ensures.ok

pub returns-clause-too_many : goal.returns-clause-too_many
returns-clause-too_many c =
    let made : steps_of c.in_ok-units.units.items ≡ mask_units (units_of c.args.group.now) = search rules in
    let same = below_cap c.args.group.now c.cap-cap.result c.mandatory_mask-mandatory.result (steps_of c.as_slice.result.now) c.cap-cap.ensures c.mandatory_mask-mandatory.ensures
    (ap steps_of c.as_slice.ensures.value ∙ made) (sym c.is_capped.ensures ∙ c.if-not-is_capped.false) in
    λ h. subst (λ ms. most_cuboids < length (with_masks c.args.masks.now.keys ms)) (sym same) (c.follow.ensures.too_many h)
