use Rattle.std.proofs.Common.{◌≡◌, ◌∙◌, ap}
use Rattle.std.specs.Prelude.{unwrap_or}
use Rattle.std.specs.List.{position_or_len}
use Rattle.agg_group.specs.Mask.{mask_at}
use Rattle.cuboid_tree.specs.Tree.{parent_of}
use Rattle.step_compute.specs.Values.{has_mask}
use Rattle.step_compute.proofs.layer_step.want_of.Goals as goal

pub returns : goal.returns
returns c =
    let masks = c.masks-masks.ensures.value in
    let parent : c.unwrap_or-parent.result ≡ unwrap_or (parent_of c.args.tree.now c.args.place) 0 = c.unwrap_or-parent.ensures ∙ ap (λ o. unwrap_or o 0) c.parent.ensures.value in
    let place : c.place_with.result ≡ position_or_len (has_mask (mask_at c.args.tree.now (unwrap_or (parent_of c.args.tree.now c.args.place) 0))) c.args.parents.now
    = c.place_with.ensures ∙ (λ i. position_or_len (has_mask (mask_at (masks i) (parent i))) c.args.parents.now) in
    λ i. record { mask = mask_at (masks i) c.args.place; parent = place i }
