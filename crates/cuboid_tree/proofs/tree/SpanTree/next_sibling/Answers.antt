use Rattle.std.proofs.Common.{length, ap, subst, ◌∙◌, arith}
use Rattle.cuboid_tree.specs.declared.node.Node.{Node}
use Rattle.cuboid_tree.specs.Links.{HasLinks}
use Rattle.cuboid_tree.proofs.Linked.{no_sibling, sibling_said}
use Rattle.cuboid_tree.proofs.tree.SpanTree.next_sibling.Goals as goal

pub index-requires : goal.index-requires
index-requires c = omega (arith, c.self.invariant.linked.long, ap length c.self.view_is, c.self.inside.nodes.ok.0)

pub returns : goal.returns
returns c =
    let masks = c.args.self.now in
    let w = subst (λ ms. HasLinks ms c.self.inside.nodes.items c.self.inside.heads.items) c.self.view_is c.self.invariant in
    let value = ap (λ (x : Node). x.next_sibling) c.index.ensures ∙ w.linked.next_sibling c.args.i c.index.result.now (omega arith) c.requires in
    record {
      next = λ p k at. value ∙ sibling_said masks c.args.i p k at;
      base = λ last. value ∙ no_sibling masks c.args.i ((w.base c.args.i c.requires).1 last);
    }
