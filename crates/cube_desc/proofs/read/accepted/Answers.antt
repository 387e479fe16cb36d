use Rattle.cube_desc.proofs.Judged.{faultless}
use Rattle.cube_desc.proofs.read.accepted.Goals as goal

pub returns : goal.returns
returns c = rw c.in_ok-parts.ensures (faultless c.args.raw.now c.requires.passed c.requires.grouped c.requires.few)
