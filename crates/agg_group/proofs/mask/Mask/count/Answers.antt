use Rattle.std.proofs.Common.{arith}
use Rattle.agg_group.proofs.MaskLemmas.{ones_are}
use Rattle.agg_group.proofs.mask.Mask.count.Goals as goal

pub returns : goal.returns
returns c = ones_are c.args.self.now (omega arith)
