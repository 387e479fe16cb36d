use Rattle.cube_desc.proofs.Passed.{rowkey_fits}
use Rattle.cube_desc.proofs.read.judge_groups.Goals as goal

pub groups_of-requires-clause-some : goal.groups_of-requires-clause-some
groups_of-requires-clause-some c = (rowkey_fits c.args.raw.now c.requires).0

pub groups_of-requires-clause-few : goal.groups_of-requires-clause-few
groups_of-requires-clause-few c = (rowkey_fits c.args.raw.now c.requires).1

pub masks_of-requires-clause-some : goal.masks_of-requires-clause-some
masks_of-requires-clause-some c = (rowkey_fits c.args.raw.now c.requires).0

pub masks_of-requires-clause-few : goal.masks_of-requires-clause-few
masks_of-requires-clause-few c = (rowkey_fits c.args.raw.now c.requires).1
