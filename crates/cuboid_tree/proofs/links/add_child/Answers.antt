use Rattle.std.proofs.Common.{◌∙◌, sym, subst, arith}
use Rattle.cuboid_tree.specs.Links.{HasNodes}
use Rattle.cuboid_tree.proofs.Linked.{child_of, child_of_none}
use Rattle.cuboid_tree.proofs.Parents.{parent_inside}
use Rattle.cuboid_tree.proofs.links.add_child.Goals as goal

pub returns-in-None : goal.returns-in-None
returns-in-None c = child_of_none c.args.masks.now c.args.i c.requires.inside c.args.nodes.now.items c.requires.nodes (sym c.requires.parent ∙ c.in-None.is)

pub index-node-requires : goal.index-node-requires
index-node-requires c =
    omega (arith, parent_inside c.args.masks.now c.args.i c.in-Some.place (sym c.requires.parent ∙ c.in-Some.is), c.requires.nodes.long, c.args.nodes.now.ok.0)

pub put-requires : goal.put-requires
put-requires c = omega (arith, parent_inside c.args.masks.now c.args.i c.in-Some.place (sym c.requires.parent ∙ c.in-Some.is), c.requires.nodes.long)

pub returns : goal.returns
returns c =
    subst (λ ns. HasNodes c.args.masks.now c.args.i c.args.i ns) (sym c.put.ensures)
    (child_of c.args.masks.now c.args.i c.requires.inside c.args.nodes.now.items c.in-Some.place c.index-node.result.now c.requires.nodes (sym c.requires.parent ∙ c.in-Some.is)
    c.index-node.ensures)
