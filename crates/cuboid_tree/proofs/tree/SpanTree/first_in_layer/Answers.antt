use Rattle.std.proofs.Common.{◌∙◌, sym, subst, arith}
use Rattle.cuboid_tree.specs.Links.{HasLinks}
use Rattle.cuboid_tree.proofs.Linked.{first_said, no_layer}
use Rattle.cuboid_tree.proofs.tree.SpanTree.first_in_layer.Goals as goal

pub returns-then-dims-gt64 : goal.returns-then-dims-gt64
returns-then-dims-gt64 c = sym (no_layer c.args.self.now c.args.dims (omega arith))

pub index-requires : goal.index-requires
index-requires c = omega (arith, c.self.invariant.layers.long, c.self.inside.heads.ok.0)

pub returns : goal.returns
returns c =
    let w = subst (λ ms. HasLinks ms c.self.inside.nodes.items c.self.inside.heads.items) c.self.view_is c.self.invariant in
    c.index.ensures ∙ w.layers.each c.args.dims c.index.result.now (omega arith) ∙ first_said c.args.self.now c.args.dims
