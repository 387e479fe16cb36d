use Rattle.cell_store.proofs.LaneLemmas.{span_lanes}
use Rattle.cell_store.proofs.lanes.lanes_in_span.Goals as goal

pub returns : goal.returns
returns c = span_lanes c.args.ids.now c.args.span c.args.at c.lanes_below.result c.lanes_below-2.result c.lanes_below-2.type_inv c.lanes_below.ensures c.lanes_below-2.ensures
