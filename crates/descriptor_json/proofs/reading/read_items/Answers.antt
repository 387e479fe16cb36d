use Rattle.descriptor_json.proofs.Items.{item_fails, item_reads}
use Rattle.descriptor_json.proofs.reading.read_items.Goals as goal

pub returns-in-Err-read : goal.returns-in-Err-read
returns-in-Err-read g c = item_fails g.T.Shaped.shape _ _ _ _ _ c.loop-i.read _ _ c.loop-i-test.true c.index-items-i.is c.in-Ok.ensures c.loop-i.invariant c.in-Err-read.ensures

pub loop-i-preserved : goal.loop-i-preserved
loop-i-preserved g c = item_reads g.T.Shaped.shape _ _ _ _ _ _ _ _ _ c.loop-i-test.true c.index-items-i.is c.in-Ok.ensures c.in-Ok-push.ensures.ok c.loop-i.invariant c.in-Ok-read.ensures
