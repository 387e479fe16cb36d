use Rattle.std.proofs.Common.{ap, ◌∙◌}
use Rattle.std.proofs.lemmas.Result.{IfOk-weaker}
use Rattle.clap.specs.Words.{App, with_subcommand}
use Rattle.command_line.specs.Values.{cuboids_app, fold_app}
use Rattle.command_line.proofs.values.with_reports.Goals as goal

pub returns : goal.returns
returns c =
    let folding = c.in_ok-folding.ensures fold_app c.on_path.ensures ∙ ap (λ (a : App). with_subcommand a fold_app.top) c.in_ok-jobs.ensures in
    IfOk-weaker c.with_built-2.result _ _ (λ r h. h ∙ ap (λ (a : App). with_subcommand a cuboids_app.top) folding) (c.with_built-2.ensures cuboids_app c.on_path-2.ensures)
