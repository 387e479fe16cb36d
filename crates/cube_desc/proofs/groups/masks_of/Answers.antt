use Rattle.cube_desc.proofs.GroupLemmas.{are_of}
use Rattle.cube_desc.proofs.groups.masks_of.Goals as goal

pub valid_masks-requires-clause-included : goal.valid_masks-requires-clause-included
valid_masks-requires-clause-included c = rw c.len-n.ensures (are_of c.args.raw.now.rowkey.items c.args.raw.now.groups.items c.args.groups.now c.requires.some c.requires.groups)
