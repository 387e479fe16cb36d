use Rattle.worker_pool.proofs.Lists.{put-last}
use Rattle.worker_pool.proofs.list.put.Goals as goal

pub returns-clause-put : goal.returns-clause-put
returns-clause-put g c = put-last c.args.item c.args.list.now.items c.push_reserved.new.self.items c.push_reserved.ensures.items
