use Rattle.std.proofs.Common.{◌≡◌, ◌<◌, [], inr, refl, rules, sym, subst, true}
use Rattle.plain_answer.specs.declared.ask.Ask.{Ask}
use Rattle.run_history.specs.World.{World, busy}
use Rattle.worker_pool.specs.Pools.{hands}
use Rattle.board_pieces.proofs.KeepUp.{keep-same, keep-then}
use Rattle.board_pieces.proofs.Reached.{now-same, same-refl}
use Rattle.board_pieces.proofs.Started.{started-same}
use Rattle.board_pieces.proofs.pieces.start_piece.Goals as goal

pub returns-then-not-has_worker-clause-turns : goal.returns-then-not-has_worker-clause-turns
returns-then-not-has_worker-clause-turns g c = same-refl c.args.board.now

pub returns-then-not-has_worker-clause-hands : goal.returns-then-not-has_worker-clause-hands
returns-then-not-has_worker-clause-hands g c = keep-same g.H.Honest.honest g.H.Hand.runs g.H.Hand.faults g.H.Hand.fails g.H.Hand.calls (hands c.args.pool.now) c.args.board.now c.args.board.now (same-refl c.args.board.now)

pub start_step-requires-clause-worker : goal.start_step-requires-clause-worker
start_step-requires-clause-worker g c = λ κs h.
    let same = rw (c.in_ok-started.was, c.in-None.is) at c.start_query.ensures.turns in
    let free : c.has_worker.result ≡ true = search rules in
    subst (λ (w : World Ask). busy w < w.workers) (sym (now-same c.args.board.now c.start_query.new.board same)) (c.has_worker.ensures.0 free)

pub returns-in-None-clause-turns : goal.returns-in-None-clause-turns
returns-in-None-clause-turns g c =
    let same = rw (c.in_ok-started.was, c.in-None.is) at c.start_query.ensures.turns in
    started-same c.args.board.now c.start_query.new.board c.start_step.new.board c.start_step.result same c.start_step.ensures.turns

pub returns-in-None-clause-none : goal.returns-in-None-clause-none
returns-in-None-clause-none g c = λ e.
    let same = rw (c.in_ok-started.was, c.in-None.is) at c.start_query.ensures.turns in
    let none = rw (c.in_ok-started.was, c.in-None.is) at c.start_query.ensures.none in
    inr (subst (λ (w : World Ask). w.queue ≡ []) (now-same c.args.board.now c.start_query.new.board same) (c.start_step.ensures.none e), none refl)

pub returns-in-None-clause-hands : goal.returns-in-None-clause-hands
returns-in-None-clause-hands g c = keep-then g.H.Honest.honest g.H.Hand.runs g.H.Hand.faults g.H.Hand.fails g.H.Hand.calls (hands c.args.pool.now) (hands c.start_query.new.pool) (hands c.start_step.new.pool) c.args.board.now c.start_query.new.board c.start_step.new.board c.start_query.ensures.hands c.start_step.ensures.hands
