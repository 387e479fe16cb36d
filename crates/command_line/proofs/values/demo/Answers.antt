use Rattle.std.specs.Prelude.{codes}
use Rattle.clap.specs.Words.{new_app}
use Rattle.command_line.specs.Values.{with_ids}
use Rattle.std.proofs.Common.{◌∷◌, []}
use Rattle.command_line.proofs.values.demo.Goals as goal

pub returns : goal.returns
returns c =
    let numbered = c.in_ok-numbered.ensures (new_app (codes "demo")) (c.new.ensures.app, c.new.ensures.local) in
    c.with_place-2.ensures (with_ids (new_app (codes "demo")) (codes "number" ∷ [])) numbered
