use Rattle.step_compute.proofs.BaseFacts.{pieces_added}
use Rattle.step_compute.proofs.base_step.add_pieces.Goals as goal

pub returns : goal.returns
returns g c = pieces_added c.append.result c.args.aggs.now c.args.dicts.now c.args.rows.now _ _ _ c.append.ensures.items c.in_ok-made.ensures
