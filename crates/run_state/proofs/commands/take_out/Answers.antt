use Rattle.std.proofs.Common.{sym, ◌∙◌}
use Rattle.run_state.proofs.Entries.{without_absent}
use Rattle.run_state.proofs.commands.take_out.Goals as goal

pub returns-else-contains-clause-items : goal.returns-else-contains-clause-items
returns-else-contains-clause-items c = without_absent c.args.job c.args.queue.now.items (sym c.contains.ensures ∙ c.if-contains.false)
