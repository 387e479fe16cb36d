use Rattle.std.proofs.Common.{◌≡◌, ap, ◌∙◌}
use Rattle.std.specs.Prelude.{codes}
use Rattle.std.proofs.lemmas.Result.{IfOk-weaker}
use Rattle.clap.specs.Simple.{app_of_fields}
use Rattle.clap.specs.Words.{App, app_of, new_app, with_subcommand}
use Rattle.command_line.specs.Values.{demo_app, run_app, without_name}
use Rattle.command_line.proofs.values.with_jobs.Goals as goal

pub returns : goal.returns
returns c =
    let named : app_of c.no_binary_name-named.result ≡ without_name (new_app (codes "cubes")) = ap app_of_fields c.no_binary_name-named.ensures ∙ ap without_name c.new.ensures.app in
    let running = c.in_ok-running.ensures run_app c.run.ensures ∙ ap (λ (a : App). with_subcommand a run_app.top) named in
    IfOk-weaker c.with_built-2.result _ _ (λ r h. h ∙ ap (λ (a : App). with_subcommand a demo_app.top) running) (c.with_built-2.ensures demo_app c.demo.ensures)
