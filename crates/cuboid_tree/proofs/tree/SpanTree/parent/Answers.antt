use Rattle.std.proofs.Common.{◌≡◌, ◌+◌, ◌↔◌, length, ap, sym, subst, ◌∙◌, arith}
use Rattle.std.specs.Prelude.{IsNone}
use Rattle.cuboid_tree.specs.declared.node.Node.{Node}
use Rattle.cuboid_tree.specs.Links.{HasLinks}
use Rattle.cuboid_tree.proofs.Parents.{parent_says}
use Rattle.cuboid_tree.proofs.tree.SpanTree.parent.Goals as goal

pub index-requires : goal.index-requires
index-requires c = omega (arith, c.self.invariant.linked.long, ap length c.self.view_is, c.self.inside.nodes.ok.0)

pub returns : goal.returns
returns c =
    let masks = c.args.self.now in
    let w = subst (λ ms. HasLinks ms c.self.inside.nodes.items c.self.inside.heads.items) c.self.view_is c.self.invariant in
    let value = ap (λ (x : Node). x.parent) c.index.ensures ∙ w.linked.parent c.args.i c.index.result.now (omega arith) c.requires in
    record {
      value = value;
      nearest = parent_says masks c.args.i c.index.result.now.parent w.spans.rising value;
      base = subst (λ o. IsNone o ↔ (c.args.i + 1 ≡ length masks)) (sym value) (w.base c.args.i c.requires);
    }
