use Rattle.std.proofs.Common.{◌≡◌, ◌<◌, ◌∙◌, ◌&&◌, ℕ, false, ap, arith, length, subst, sym}
use Rattle.std.specs.List.{list_any, range_with_len}
use Rattle.cuboid_tree.specs.Tree.{is_child, is_of_layer}
use Rattle.step_codec.proofs.LayerFacts.{any_found, any_left}
use Rattle.step_codec.proofs.layers.is_above_layer.Goals as goal

pub returns : goal.returns
returns c =
    let masks = c.args.tree.now in
    let all : c.loop-place.place ≡ length masks = omega (arith, c.loop-place-test.false, c.loop-place.auto.place-end, ap length c.masks-place-end.ensures.value) in
    sym (subst (λ (n : ℕ). list_any (λ i. is_of_layer masks c.args.dims i && is_child masks c.args.parent i) (range_with_len 0 n) ≡ false) all c.loop-place.invariant)

pub loop-place-preserved : goal.loop-place-preserved
loop-place-preserved c =
    any_left (λ i. is_of_layer c.args.tree.now c.args.dims i && is_child c.args.tree.now c.args.parent i) c.loop-place.place c.loop-place.invariant (sym c.is_below.ensures ∙ c.if-is_below.false)

pub returns-then-is_below : goal.returns-then-is_below
returns-then-is_below c =
    let inside : c.loop-place.place < length c.args.tree.now = omega (arith, c.loop-place-test.true, ap length c.masks-place-end.ensures.value) in
    sym (any_found (λ i. is_of_layer c.args.tree.now c.args.dims i && is_child c.args.tree.now c.args.parent i) (length c.args.tree.now) c.loop-place.place inside (sym c.is_below.ensures ∙ c.if-is_below.true))
