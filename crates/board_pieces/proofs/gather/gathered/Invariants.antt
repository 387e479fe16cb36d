use Rattle.std.proofs.Common.{◌≡◌, []}
use Rattle.outside.specs.Rises.{Risen, TellSame}
use Rattle.worker_pool.specs.Pools.{hands}
use Rattle.board_pieces.proofs.gather.gathered.Given as goal

abbrev pub invariant-loop : goal.invariant-loop
invariant-loop g l =
    (goal.iterator-loop g).can_next l.iterator' × (goal.iterator-loop g).is_finite l.iterator'
    × Risen g.H.Hand.runs (hands l.initial.pool) (hands l.pool) 0
    × Risen g.H.Hand.faults (hands l.initial.pool) (hands l.pool) 0
    × TellSame g.H.Hand.fails (hands l.initial.pool) (hands l.pool)
    × (l.initial.pool.in_flight ≡ [] → l.pool ≡ l.initial.pool)
