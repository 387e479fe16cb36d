use Rattle.cube_desc.proofs.Judged.{bad_group_first}
use Rattle.cube_desc.proofs.read.bad_group.Goals as goal

pub returns : goal.returns
returns c = λ f e. rw (c.refusal.ensures f e) (bad_group_first c.args.raw.now c.args.place.now c.requires.passed c.requires.bad)
