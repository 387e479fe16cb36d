use Rattle.std.proofs.Common.{ap, ◌∙◌}
use Rattle.std.proofs.lemmas.Result.{IfOk-weaker}
use Rattle.clap.specs.Words.{App, app_of, with_subcommand}
use Rattle.command_line.specs.Values.{IsApp}
use Rattle.command_line.proofs.values.with_built.Goals as goal

pub returns : goal.returns
returns c = λ app built.
    let is_app : IsApp c.in_ok-subcommand.subcommand app = rw (c.in_ok-subcommand.was {u = tt}) at built in
    IfOk-weaker c.subcommand.result _ _ (λ r h. h.shape is_app.1 ∙ ap (λ (a : App). with_subcommand (app_of c.args.command) a.top) is_app.0) c.subcommand.ensures
