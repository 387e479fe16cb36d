use Rattle.cube_desc.proofs.Judged.{too_many_first}
use Rattle.cube_desc.proofs.read.too_many.Goals as goal

pub returns : goal.returns
returns c = λ f e. rw (c.refusal.ensures f e) (too_many_first c.args.raw.now c.args.raw.now.groups.place c.requires.passed c.requires.grouped c.requires.many)
