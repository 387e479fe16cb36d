use Rattle.entry_log.specs.Logs.{entry_frame}
use Rattle.entry_log.proofs.Reading.{other_head}
use Rattle.entry_log.proofs.read.framed_body.Goals as goal

pub returns-in_default-clause-none : goal.returns-in_default-clause-none
returns-in_default-clause-none c = λ body is. c.in_default.ensures.torn (entry_frame body) is

pub returns-else-head_of_entry-clause-none : goal.returns-else-head_of_entry-clause-none
returns-else-head_of_entry-clause-none c = λ body. other_head c.in-Ok.head c.in-Ok.body.now c.args.frame.now body c.in-Ok.ensures.taken c.if-head_of_entry.ensures
