use Rattle.std.proofs.Common.{◌∙◌, sym, ap, length, take, arith}
use Rattle.std.specs.Prelude.{slice_get}
use Rattle.std.proofs.lemmas.List.{length_push}
use Rattle.std.proofs.lemmas.Option.{slice_get_within}
use Rattle.cuboid_tree.specs.Tree.{is_of_layer, layer_of}
use Rattle.cuboid_tree.proofs.Chain.{front_all, front_more}
use Rattle.cuboid_tree.proofs.Kept.{kept_passes}
use Rattle.cuboid_tree.proofs.tree.SpanTree.layer.Goals as goal

pub next_in_layer-next-requires : goal.next_in_layer-next-requires
next_in_layer-next-requires c =
    omega (arith, (kept_passes (is_of_layer c.args.self.now c.args.dims) 0 (length c.args.self.now) (length c.loop-next.layer.items) c.in-Some.place (sym c.loop-next.invariant.1 ∙ c.in-Some.is)).2)

pub loop-next-smaller : goal.loop-next-smaller
loop-next-smaller c =
    let list = layer_of c.args.self.now c.args.dims in
    let old = c.loop-next.layer.items in
    omega (arith, slice_get_within list (length old) c.in-Some.place (sym c.loop-next.invariant.1 ∙ c.in-Some.is), length_push old c.in-Some.place, ap length c.in_ok-push.ensures.items)

pub loop-next-preserved : goal.loop-next-preserved
loop-next-preserved c =
    let list = layer_of c.args.self.now c.args.dims in
    let old = c.loop-next.layer.items in
    let at = sym c.loop-next.invariant.1 ∙ c.in-Some.is in
    let pushed = c.in_ok-push.ensures.items in (
      pushed ∙ front_more list old c.in-Some.place c.loop-next.invariant.0 at ∙ ap (λ xs. take (length xs) list) (sym pushed),
      c.next_in_layer-next.ensures c.args.dims (length old) at ∙ ap (slice_get list) (sym (length_push old c.in-Some.place) ∙ ap length (sym pushed)),
    )

pub returns : goal.returns
returns c = front_all (layer_of c.args.self.now c.args.dims) c.loop-next.layer.items c.loop-next.invariant.0 (sym c.loop-next.invariant.1 ∙ c.in_default.is)
