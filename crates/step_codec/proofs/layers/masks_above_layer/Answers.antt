use Rattle.std.proofs.Common.{◌≡◌, ◌∙◌, ℕ, ap, arith, length, sym}
use Rattle.std.specs.Prelude.{filter, map}
use Rattle.std.specs.List.{range_with_len}
use Rattle.agg_group.specs.Mask.{mask_at}
use Rattle.step_codec.specs.Layouts.{is_above_layer}
use Rattle.step_codec.proofs.LayerFacts.{place_kept, place_left}
use Rattle.step_codec.proofs.layers.masks_above_layer.Goals as goal
use Rattle.step_codec.proofs.layers.masks_above_layer.Goals.{then-is_above_layer+in_ok-push, else-is_above_layer}

pub loop-place-preserved : goal.loop-place-preserved
loop-place-preserved c =
    let masks = c.args.tree.now in
    elim c.if-is_above_layer.branch [
      | then-is_above_layer+in_ok-push w ↦
          (let more = place_kept (mask_at masks) (is_above_layer masks c.args.dims) c.loop-place.place (sym c.is_above_layer.ensures ∙ w.if-is_above_layer.true) in
          let pushed = w.in_ok-push.ensures.items in
          let same = c.masks-masks.ensures.value in
          cc)
      | else-is_above_layer w ↦
          (let more = place_left (mask_at masks) (is_above_layer masks c.args.dims) c.loop-place.place (sym c.is_above_layer.ensures ∙ w.if-is_above_layer.false) in
          cc)
    ]

pub returns : goal.returns
returns c =
    let masks = c.args.tree.now in
    let all : c.loop-place.place ≡ length masks = omega (arith, ap length c.masks-masks.ensures.value) in
    c.loop-place.invariant ∙ ap (λ (n : ℕ). map (mask_at masks) (filter (is_above_layer masks c.args.dims) (range_with_len 0 n))) all
