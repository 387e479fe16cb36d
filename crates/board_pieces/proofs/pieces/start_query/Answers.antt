use Rattle.std.proofs.Common.{◌≡◌, Option, None, inl, sym, subst}
use Rattle.job_board.specs.BoardModel.{next_query, now}
use Rattle.plain_answer.specs.declared.ask.Ask.{Ask}
use Rattle.run_history.specs.Commands.Turn.{QueryTakes}
use Rattle.run_history.specs.World.{Waiting, World, busy}
use Rattle.run_history.proofs.Lists.{map_none}
use Rattle.worker_pool.specs.Pools.{hands}
use Rattle.board_pieces.specs.Turns.{HasGivenQuery}
use Rattle.board_pieces.specs.declared.pieces.PieceTurn.{PieceTurn}
use Rattle.board_pieces.proofs.Begun.{no-none, start-by_query, taken-pieces}
use Rattle.std.proofs.Common.{◌<◌, Err, rules}
use Rattle.board_pieces.proofs.KeepUp.{hand-free, keep-same, keep-then, keep-turn, pieces-same}
use Rattle.board_pieces.proofs.Reached.{added-same, now-same, same-equal}
use Rattle.board_pieces.proofs.pieces.start_query.Goals as goal

pub returns-in_err-reserve_turn-clause-turns : goal.returns-in_err-reserve_turn-clause-turns
returns-in_err-reserve_turn-clause-turns g c =
    let e : c.from_residual.result ≡ Err c.in_err-reserve_turn.field-0.0 = search rules in
    rw e (inl c.in_err-reserve_turn.ensures.same)

pub returns-in_err-reserve_turn-clause-hands : goal.returns-in_err-reserve_turn-clause-hands
returns-in_err-reserve_turn-clause-hands g c = keep-same g.H.Honest.honest g.H.Hand.runs g.H.Hand.faults g.H.Hand.fails g.H.Hand.calls (hands c.args.pool.now) c.args.board.now c.reserve_turn.new.self c.in_err-reserve_turn.ensures.same

pub take_query-requires-clause-worker : goal.take_query-requires-clause-worker
take_query-requires-clause-worker g c = subst (λ (w : World Ask). busy w < w.workers) (sym (now-same c.args.board.now c.reserve_turn.new.self c.in_ok-reserve_turn.ensures.same)) c.requires.worker

pub returns-in_err-found-clause-turns : goal.returns-in_err-found-clause-turns
returns-in_err-found-clause-turns g c =
    let e : c.from_residual-in_err-found.result ≡ Err c.in_err-found.field-0.0 = search rules in
    rw e (inl (same-equal c.args.board.now c.reserve_turn.new.self c.take_query.new.self c.in_ok-reserve_turn.ensures.same c.in_err-found.ensures.err))

pub returns-in_err-found-clause-hands : goal.returns-in_err-found-clause-hands
returns-in_err-found-clause-hands g c = keep-same g.H.Honest.honest g.H.Hand.runs g.H.Hand.faults g.H.Hand.fails g.H.Hand.calls (hands c.args.pool.now) c.args.board.now c.take_query.new.self (same-equal c.args.board.now c.reserve_turn.new.self c.take_query.new.self c.in_ok-reserve_turn.ensures.same c.in_err-found.ensures.err)

pub returns-in-None-clause-pieces : goal.returns-in-None-clause-pieces
returns-in-None-clause-pieces g c = pieces-same g.H.Honest.honest c.args.board.now c.take_query.new.self c.args.pool.now (same-equal c.args.board.now c.reserve_turn.new.self c.take_query.new.self c.in_ok-reserve_turn.ensures.same (c.in_ok-found.ensures.none c.in-None.is)) c.requires.pieces

pub returns-in-None-clause-turns : goal.returns-in-None-clause-turns
returns-in-None-clause-turns g c = (same-equal c.args.board.now c.reserve_turn.new.self c.take_query.new.self c.in_ok-reserve_turn.ensures.same (c.in_ok-found.ensures.none c.in-None.is))

pub returns-in-None-clause-none : goal.returns-in-None-clause-none
returns-in-None-clause-none g c = λ e.
    let first = rw c.in-None.is at c.in_ok-found.ensures.first in
    subst (λ (w : World Ask). next_query w ≡ None) (now-same c.args.board.now c.reserve_turn.new.self c.in_ok-reserve_turn.ensures.same) (map_none (λ (q : Waiting Ask). q.line) (next_query (now c.reserve_turn.new.self)) (sym first))

pub returns-in-None-clause-hands : goal.returns-in-None-clause-hands
returns-in-None-clause-hands g c = keep-same g.H.Honest.honest g.H.Hand.runs g.H.Hand.faults g.H.Hand.fails g.H.Hand.calls (hands c.args.pool.now) c.args.board.now c.take_query.new.self (same-equal c.args.board.now c.reserve_turn.new.self c.take_query.new.self c.in_ok-reserve_turn.ensures.same (c.in_ok-found.ensures.none c.in-None.is))

pub give_query-requires-clause-free : goal.give_query-requires-clause-free
give_query-requires-clause-free g c = λ κs h. hand-free g.H.Honest.honest c.args.board.now c.args.pool.now c.requires.pieces c.requires.worker

pub give_query-requires-clause-pieces : goal.give_query-requires-clause-pieces
give_query-requires-clause-pieces g c = λ κs h.
    let added = rw c.in-Some.is at c.in_ok-found.ensures.added in
    let next = rw c.in-Some.is at c.in_ok-found.ensures.next in
    let asks = rw c.in-Some.is at c.in_ok-found.ensures.query in
    let version = rw c.in-Some.is at c.in_ok-found.ensures.version in
    let cells = rw c.in-Some.is at c.in_ok-found.ensures.cells in
    taken-pieces g.H.Honest.honest c.reserve_turn.new.self c.take_query.new.self c.args.pool.now (pieces-same g.H.Honest.honest c.args.board.now c.reserve_turn.new.self c.args.pool.now c.in_ok-reserve_turn.ensures.same c.requires.pieces) (record { legal = c.note_history.ensures.legal; fresh = c.note_history.ensures.fresh }) (record { line = c.in-Some.taken.line; version = c.in-Some.taken.version; cells = c.in-Some.taken.cells }) added next asks version cells

pub returns-in-Some-clause-turns : goal.returns-in-Some-clause-turns
returns-in-Some-clause-turns g c =
    let added = rw c.in-Some.is at c.in_ok-found.ensures.added in
    start-by_query c.give_query.result c.args.board.now c.take_query.new.self c.give_query.new.board c.in-Some.taken.line (added-same c.args.board.now c.reserve_turn.new.self (QueryTakes c.in-Some.taken.line) c.take_query.new.self c.in_ok-reserve_turn.ensures.same added) c.give_query.ensures.turns c.give_query.ensures.err

pub returns-in-Some-clause-none : goal.returns-in-Some-clause-none
returns-in-Some-clause-none g c = λ e. absurd (no-none c.give_query.result (λ (given : Option PieceTurn). HasGivenQuery c.in-Some.taken.line c.take_query.new.self given c.give_query.new.board) (λ h. h) c.give_query.ensures.turns e)

pub returns-in-Some-clause-hands : goal.returns-in-Some-clause-hands
returns-in-Some-clause-hands g c =
    let added = rw c.in-Some.is at c.in_ok-found.ensures.added in
    keep-then g.H.Honest.honest g.H.Hand.runs g.H.Hand.faults g.H.Hand.fails g.H.Hand.calls (hands c.args.pool.now) (hands c.args.pool.now) (hands c.give_query.new.pool) c.args.board.now c.take_query.new.self c.give_query.new.board (keep-turn g.H.Honest.honest g.H.Hand.runs g.H.Hand.faults g.H.Hand.fails g.H.Hand.calls (hands c.args.pool.now) c.args.board.now c.take_query.new.self (QueryTakes c.in-Some.taken.line) tt (added-same c.args.board.now c.reserve_turn.new.self (QueryTakes c.in-Some.taken.line) c.take_query.new.self c.in_ok-reserve_turn.ensures.same added)) c.give_query.ensures.hands
