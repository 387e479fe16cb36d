use Rattle.worker_pool.proofs.Lists.{taken-out}
use Rattle.std.proofs.Common.{arith}
use Rattle.worker_pool.proofs.list.take_at.Goals as goal

pub returns-clause-taken : goal.returns-clause-taken
returns-clause-taken g c = taken-out c.args.list.now.items c.remove.new.self.items c.args.place c.remove.result (omega arith) c.remove.ensures.value c.remove.ensures.by_index.2
