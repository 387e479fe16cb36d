use Rattle.cuboid_tree.proofs.Linked.{headed}
use Rattle.cuboid_tree.proofs.links.add_to_layer.Goals as goal

pub returns : goal.returns
returns c =
    headed c.args.masks.now c.args.i c.requires.inside c.args.heads.now.items c.dimensions-dims.result c.requires.heads c.dimensions-dims.ensures.count c.dimensions-dims.ensures.few
    c.dimensions-dims.ensures.fits
