use Rattle.step_compute.proofs.LayerFacts.{appended, tables_are}
use Rattle.step_compute.proofs.layer_step.add_batch.Goals as goal

pub returns : goal.returns
returns g c = appended c.append.result _ _ _ _ c.append.ensures.items (tables_are c.args.parents.now c.args.batch.now c.in_ok-made.made.items c.in_ok-made.ensures)
