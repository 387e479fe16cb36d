use Rattle.std.proofs.Common.{◌∙◌, ◌+◌, sym, ap, length, arith}
use Rattle.cuboid_tree.specs.declared.node.Node.{Node}
use Rattle.cuboid_tree.specs.Tree.{is_of_layer}
use Rattle.cuboid_tree.proofs.Seek.{first_says}
use Rattle.cuboid_tree.proofs.Walk.{falls, found_here, goes_on, layer_ends, next_of}
use Rattle.cuboid_tree.proofs.nearest.first_above.Goals as goal

pub is_above-requires-clause-place : goal.is_above-requires-clause-place
is_above-requires-clause-place c =
    let j = c.loop-next.invariant.0 in
    (first_says (is_of_layer c.args.masks.now c.args.dims) j (length c.args.masks.now) c.in-Some.place (sym c.loop-next.invariant.2 ∙ c.in-Some.is)).below

pub returns-then-is_above : goal.returns-then-is_above
returns-then-is_above c =
    let j = c.loop-next.invariant.0 in
    sym
    (c.loop-next.invariant.3
    ∙ found_here c.args.masks.now c.args.dims c.args.i j c.in-Some.place (sym c.loop-next.invariant.2 ∙ c.in-Some.is) (sym c.is_above.ensures.test ∙ c.if-is_above.true))

pub index-requires : goal.index-requires
index-requires c =
    let j = c.loop-next.invariant.0 in
    let w = first_says (is_of_layer c.args.masks.now c.args.dims) j (length c.args.masks.now) c.in-Some.place (sym c.loop-next.invariant.2 ∙ c.in-Some.is) in
    omega (arith, w.below, c.requires.nodes.long, c.args.links.now.nodes.ok.0)

pub loop-next-smaller : goal.loop-next-smaller
loop-next-smaller c =
    let j = c.loop-next.invariant.0 in
    let e = sym c.loop-next.invariant.2 ∙ c.in-Some.is in
    let w = first_says (is_of_layer c.args.masks.now c.args.dims) j (length c.args.masks.now) c.in-Some.place e in
    falls c.args.masks.now c.args.dims j c.in-Some.place c.loop-next.next c.index.result.now.next_in_layer e c.in-Some.is
    (ap (λ (x : Node). x.next_in_layer) c.index.ensures
    ∙ c.requires.nodes.next_in_layer c.in-Some.place c.index.result.now (omega (arith, w.from, c.loop-next.invariant.1)) w.below
    ∙ next_of c.args.masks.now c.args.dims c.args.i j c.in-Some.place e)

pub loop-next-preserved : goal.loop-next-preserved
loop-next-preserved c =
    let j = c.loop-next.invariant.0 in
    let e = sym c.loop-next.invariant.2 ∙ c.in-Some.is in
    let w = first_says (is_of_layer c.args.masks.now c.args.dims) j (length c.args.masks.now) c.in-Some.place e in (
      c.in-Some.place + 1,
      omega (arith, w.from, c.loop-next.invariant.1),
      ap (λ (x : Node). x.next_in_layer) c.index.ensures
          ∙ c.requires.nodes.next_in_layer c.in-Some.place c.index.result.now (omega (arith, w.from, c.loop-next.invariant.1)) w.below
          ∙ next_of c.args.masks.now c.args.dims c.args.i j c.in-Some.place e,
      c.loop-next.invariant.3 ∙ goes_on c.args.masks.now c.args.dims c.args.i j c.in-Some.place e (sym c.is_above.ensures.test ∙ c.if-is_above.false),
    )

pub returns : goal.returns
returns c = sym (c.loop-next.invariant.3 ∙ layer_ends c.args.masks.now c.args.dims c.args.i c.loop-next.invariant.0 (sym c.loop-next.invariant.2 ∙ c.in_default.is))
