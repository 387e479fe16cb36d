use Rattle.std.proofs.Common.{◌∷◌, []}
use Rattle.std.specs.Prelude.{codes}
use Rattle.clap.specs.Words.{new_app}
use Rattle.command_line.specs.Values.{with_ids}
use Rattle.command_line.proofs.values.step.Goals as goal

pub returns : goal.returns
returns c =
    let from_task = c.in_ok-from_task.ensures (new_app (codes "step")) (c.new.ensures.app, c.new.ensures.local) in
    let to_product = c.in_ok-to_product.ensures (with_ids (new_app (codes "step")) (codes "task" ∷ [])) from_task in
    c.with_place-3.ensures (with_ids (new_app (codes "step")) (codes "task" ∷ codes "product" ∷ [])) to_product
