use Rattle.std.proofs.Common.{ap, ◌∙◌}
use Rattle.std.proofs.lemmas.Result.{IfOk-weaker}
use Rattle.clap.specs.Words.{App, with_subcommand}
use Rattle.command_line.specs.Values.{step_app}
use Rattle.command_line.proofs.values.program.Goals as goal

pub returns : goal.returns
returns c =
    IfOk-weaker c.with_built.result _ _ (λ r h. h ∙ ap (λ (a : App). with_subcommand a step_app.top) c.in_ok-reports.ensures) (c.with_built.ensures step_app c.step.ensures)
