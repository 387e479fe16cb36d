use Rattle.entry_log.proofs.OneLog as one_log
use Rattle.entry_log.proofs.laws.logs_are_one.Goals as goal

pub returns : goal.returns
returns c = one_log.logs_are_one
