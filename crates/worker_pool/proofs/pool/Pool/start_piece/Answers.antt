use Rattle.std.proofs.Common.{sym, subst}
use Rattle.worker_pool.proofs.Moves.{started-away, started-here}
use Rattle.worker_pool.specs.Pools.{IsStarted, PoolModel}
use Rattle.worker_pool.proofs.pool.Pool.start_piece.Goals.{in-Ok-launch, in-Err-launch}
use Rattle.worker_pool.proofs.pool.Pool.start_piece.Goals as goal

pub returns-clause-ok : goal.returns-clause-ok
returns-clause-ok g c =
    let hand = c.take_at-hand in
    let ready = c.prepare in
    elim c.match-launch.branch [
      | in-Ok-launch w ↦ subst (λ (p : PoolModel g.row.H.Denot g.row.Q.Denot). IsStarted c.args.piece c.args.self.now p) (sym w.self-is) (rw (← c.self.view_is)
          (started-away hand.result c.args.piece c.self.inside.free.items hand.new.list.items hand.ensures.taken w.in-Ok-launch.flight w.in-Ok-launch.ensures.away c.self.inside.done.items c.self.inside.flights.items
          ready.new.done.items ready.new.flights.items w.put.new.list.items ready.ensures.done ready.ensures.flights w.put.ensures.put))
      | in-Err-launch w ↦ subst (λ (p : PoolModel g.row.H.Denot g.row.Q.Denot). IsStarted c.args.piece c.args.self.now p) (sym w.self-is) (rw (← c.self.view_is)
          (started-here hand.result c.args.piece c.self.inside.free.items hand.new.list.items hand.ensures.taken w.in-Err-launch.done w.in-Err-launch.ensures.here c.self.inside.done.items c.self.inside.flights.items
          ready.new.done.items ready.new.flights.items w.put-in-Err-launch.new.list.items ready.ensures.done ready.ensures.flights w.put-in-Err-launch.ensures.put))
    ]
