use Rattle.worker_pool.proofs.Moves.{landed-here}
use Rattle.worker_pool.proofs.pool.Pool.wait_any.Goals as goal

pub returns-then-not-is_empty-clause-landed : goal.returns-then-not-is_empty-clause-landed
returns-then-not-is_empty-clause-landed g c =
    rw (← c.self.view_is) (landed-here _ c.next_done-hand.result.end c.next_done-hand.result.hand c.self.inside.free.items c.put.new.list.items c.put.ensures.put
    c.self.inside.done.items c.self.inside.flights.items c.next_done-hand.new.done.items c.next_done-hand.ensures.ended)
