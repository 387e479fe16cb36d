use Rattle.std.proofs.Common.{arith}
use Rattle.entry_log.proofs.Entries.{frame_in_memory}
use Rattle.entry_log.proofs.log.staged.Goals as goal

pub returns-clause-fits : goal.returns-clause-fits
returns-clause-fits c = frame_in_memory c.args.body.now c.in_ok-frame.frame.items c.in_ok-frame.ensures (omega arith) (omega arith)
