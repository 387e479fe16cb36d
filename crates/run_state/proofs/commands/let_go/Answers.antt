use Rattle.std.proofs.Common.{sym, ap, ◌∙◌}
use Rattle.run_state.proofs.Steers.{refused_here}
use Rattle.run_state.proofs.commands.let_go.Goals as goal

pub returns-then-is_err : goal.returns-then-is_err
returns-then-is_err g c = refused_here c.args.control c.args.answer.now c.args.products.now.items (sym c.is_err.ensures.value ∙ c.if-is_err.true)
