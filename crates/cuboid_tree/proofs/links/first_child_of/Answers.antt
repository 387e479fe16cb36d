use Rattle.std.proofs.Common.{◌∙◌, sym, arith}
use Rattle.cuboid_tree.proofs.Linked.{sibling_says}
use Rattle.cuboid_tree.proofs.Parents.{parent_inside}
use Rattle.cuboid_tree.proofs.links.first_child_of.Goals as goal

pub offset_bounds-nodes-place : goal.offset_bounds-nodes-place
offset_bounds-nodes-place c =
    let there = parent_inside c.args.masks.now c.args.i c.in-Some.place (sym c.requires.parent ∙ c.in-Some.is) in
    omega (arith, there, c.requires.nodes.long)

pub bounds-nodes-place : goal.bounds-nodes-place
bounds-nodes-place c = omega (arith, parent_inside c.args.masks.now c.args.i c.in-Some.place (sym c.requires.parent ∙ c.in-Some.is), c.requires.nodes.long)

pub returns-in-Some : goal.returns-in-Some
returns-in-Some c = sibling_says c.args.masks.now c.args.i c.in-Some.place c.args.nodes.now _ c.requires.nodes (sym c.requires.parent ∙ c.in-Some.is)
