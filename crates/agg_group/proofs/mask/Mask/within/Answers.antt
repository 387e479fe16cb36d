use Rattle.std.proofs.Common.{arith}
use Rattle.agg_group.proofs.MaskLemmas.{and_is_within, and_decides}
use Rattle.agg_group.proofs.mask.Mask.within.Goals as goal

pub returns-clause-test : goal.returns-clause-test
returns-clause-test c = and_is_within c.args.self.now c.args.o (omega arith)

pub returns-clause-subset : goal.returns-clause-subset
returns-clause-subset c = and_decides c.args.self.now c.args.o
