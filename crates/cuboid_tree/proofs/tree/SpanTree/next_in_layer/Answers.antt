use Rattle.std.proofs.Common.{length, ap, subst, ◌∙◌, arith}
use Rattle.cuboid_tree.specs.declared.node.Node.{Node}
use Rattle.cuboid_tree.specs.Links.{HasLinks}
use Rattle.cuboid_tree.proofs.Linked.{layer_said}
use Rattle.cuboid_tree.proofs.tree.SpanTree.next_in_layer.Goals as goal

pub index-requires : goal.index-requires
index-requires c = omega (arith, c.self.invariant.linked.long, ap length c.self.view_is, c.self.inside.nodes.ok.0)

pub returns : goal.returns
returns c = λ dims k at.
    let w = subst (λ ms. HasLinks ms c.self.inside.nodes.items c.self.inside.heads.items) c.self.view_is c.self.invariant in
    ap (λ (x : Node). x.next_in_layer) c.index.ensures ∙ w.linked.next_in_layer c.args.i c.index.result.now (omega arith) c.requires
    ∙ layer_said c.args.self.now c.args.i dims k at
