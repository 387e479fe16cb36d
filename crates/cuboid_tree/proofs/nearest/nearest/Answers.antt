use Rattle.std.proofs.Common.{◌∙◌, sym, arith}
use Rattle.cuboid_tree.proofs.Above.{above_later, above_more}
use Rattle.cuboid_tree.proofs.Parents.{base_says}
use Rattle.cuboid_tree.proofs.Walk.{no_parent_there, one_more, parent_there}
use Rattle.cuboid_tree.proofs.nearest.nearest.Goals as goal

pub loop-dims-init : goal.loop-dims-init
loop-dims-init c = λ k below above.
    let masks = c.args.masks.now in
    let own = c.dimensions-own.ensures in
    let later = above_later masks c.args.i k c.requires.spans.rising c.requires.inside own.fits above in
    omega (arith, above_more masks c.args.i k own.fits (c.requires.heads.fits k (omega arith) below) above, own.count)

pub returns-in-Some-clause-value : goal.returns-in-Some-clause-value
returns-in-Some-clause-value c =
    sym
    (parent_there c.args.masks.now c.args.i c.requires.spans.rising c.requires.inside c.dimensions-own.ensures.fits c.loop-dims.dims c.in-Some.place c.loop-dims.invariant
    (sym c.in-Some.ensures))

pub returns-in-Some-clause-base : goal.returns-in-Some-clause-base
returns-in-Some-clause-base c =
    base_says c.args.masks.now c.args.i c.requires.spans c.requires.inside c.dimensions-own.ensures.fits _
    (sym
    (parent_there c.args.masks.now c.args.i c.requires.spans.rising c.requires.inside c.dimensions-own.ensures.fits c.loop-dims.dims c.in-Some.place c.loop-dims.invariant
    (sym c.in-Some.ensures)))

pub loop-dims-preserved : goal.loop-dims-preserved
loop-dims-preserved c =
    one_more c.args.masks.now c.args.i c.requires.spans.rising c.requires.inside c.dimensions-own.ensures.fits c.loop-dims.dims c.loop-dims.invariant
    (sym c.first_above.ensures ∙ c.in_default.is)

pub returns-clause-value : goal.returns-clause-value
returns-clause-value c =
    sym
    (no_parent_there c.args.masks.now c.args.i c.requires.spans.rising c.requires.inside c.dimensions-own.ensures.fits (λ k below above. omega (arith, c.loop-dims.invariant k below above)))

pub returns-clause-base : goal.returns-clause-base
returns-clause-base c =
    base_says c.args.masks.now c.args.i c.requires.spans c.requires.inside c.dimensions-own.ensures.fits _
    (sym
    (no_parent_there c.args.masks.now c.args.i c.requires.spans.rising c.requires.inside c.dimensions-own.ensures.fits (λ k below above. omega (arith, c.loop-dims.invariant k below above))))
