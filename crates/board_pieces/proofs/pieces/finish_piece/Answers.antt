use Rattle.worker_pool.specs.Pools.{hands}
use Rattle.board_pieces.proofs.KeepUp.{keep-landed, keep-pool, keep-same, keep-then, pieces-same}
use Rattle.board_pieces.proofs.Landed.{may-end, pieces-ended, turns-ended}
use Rattle.board_pieces.proofs.Started.{ended-same}
use Rattle.board_pieces.proofs.pieces.finish_piece.Goals as goal

pub returns-in_err-reserve_turn-clause-pieces : goal.returns-in_err-reserve_turn-clause-pieces
returns-in_err-reserve_turn-clause-pieces g c = pieces-same g.H.Honest.honest c.args.board.now c.reserve_turn.new.self c.args.pool.now c.in_err-reserve_turn.ensures.same c.requires

pub returns-in_err-reserve_turn-clause-hands : goal.returns-in_err-reserve_turn-clause-hands
returns-in_err-reserve_turn-clause-hands g c = keep-same g.H.Honest.honest g.H.Hand.runs g.H.Hand.faults g.H.Hand.fails g.H.Hand.calls (hands c.args.pool.now) c.args.board.now c.reserve_turn.new.self c.in_err-reserve_turn.ensures.same

pub record_end-requires-clause-may : goal.record_end-requires-clause-may
record_end-requires-clause-may g c = may-end g.H.Honest.honest g.H.Hand.runs g.H.Hand.faults g.H.Hand.fails g.H.Hand.calls c.reserve_turn.new.self c.args.pool.now c.wait_any.new.self (pieces-same g.H.Honest.honest c.args.board.now c.reserve_turn.new.self c.args.pool.now c.in_ok-reserve_turn.ensures.same c.requires) (record { legal = c.note_history.ensures.legal; fresh = c.note_history.ensures.fresh }) c.in-Some.ended c.in-Some.ensures.landed

pub returns-in-Some-clause-pieces : goal.returns-in-Some-clause-pieces
returns-in-Some-clause-pieces g c = pieces-ended g.H.Honest.honest g.H.Hand.runs g.H.Hand.faults g.H.Hand.fails g.H.Hand.calls c.reserve_turn.new.self c.args.pool.now c.wait_any.new.self (pieces-same g.H.Honest.honest c.args.board.now c.reserve_turn.new.self c.args.pool.now c.in_ok-reserve_turn.ensures.same c.requires) (record { legal = c.note_history.ensures.legal; fresh = c.note_history.ensures.fresh }) c.record_end.new.board c.in-Some.ended c.record_end.result c.in-Some.ensures.landed c.record_end.ensures

pub returns-in-Some-clause-turns : goal.returns-in-Some-clause-turns
returns-in-Some-clause-turns g c = ended-same g.H.Honest.honest c.args.board.now c.reserve_turn.new.self c.record_end.new.board c.record_end.result c.in_ok-reserve_turn.ensures.same (turns-ended g.H.Honest.honest g.H.Hand.runs g.H.Hand.faults g.H.Hand.fails g.H.Hand.calls c.reserve_turn.new.self c.args.pool.now c.wait_any.new.self (pieces-same g.H.Honest.honest c.args.board.now c.reserve_turn.new.self c.args.pool.now c.in_ok-reserve_turn.ensures.same c.requires) (record { legal = c.note_history.ensures.legal; fresh = c.note_history.ensures.fresh }) c.record_end.new.board c.in-Some.ended c.record_end.result c.in-Some.ensures.landed c.record_end.ensures)

pub returns-in-Some-clause-hands : goal.returns-in-Some-clause-hands
returns-in-Some-clause-hands g c = keep-then g.H.Honest.honest g.H.Hand.runs g.H.Hand.faults g.H.Hand.fails g.H.Hand.calls (hands c.args.pool.now) (hands c.args.pool.now) (hands c.wait_any.new.self) c.args.board.now c.reserve_turn.new.self c.record_end.new.board (keep-same g.H.Honest.honest g.H.Hand.runs g.H.Hand.faults g.H.Hand.fails g.H.Hand.calls (hands c.args.pool.now) c.args.board.now c.reserve_turn.new.self c.in_ok-reserve_turn.ensures.same) (keep-landed g.H.Honest.honest g.H.Hand.runs g.H.Hand.faults g.H.Hand.fails g.H.Hand.calls c.reserve_turn.new.self c.args.pool.now c.wait_any.new.self (pieces-same g.H.Honest.honest c.args.board.now c.reserve_turn.new.self c.args.pool.now c.in_ok-reserve_turn.ensures.same c.requires) (record { legal = c.note_history.ensures.legal; fresh = c.note_history.ensures.fresh }) c.record_end.new.board c.in-Some.ended c.record_end.result c.in-Some.ensures.landed c.record_end.ensures)

pub returns-in-None-clause-hands : goal.returns-in-None-clause-hands
returns-in-None-clause-hands g c =
    keep-pool g.H.Honest.honest g.H.Hand.runs g.H.Hand.faults g.H.Hand.fails g.H.Hand.calls c.args.board.now c.reserve_turn.new.self c.args.pool.now c.wait_any.new.self (c.wait_any.ensures.same c.in-None.is)
    (keep-same g.H.Honest.honest g.H.Hand.runs g.H.Hand.faults g.H.Hand.fails g.H.Hand.calls (hands c.args.pool.now) c.args.board.now c.reserve_turn.new.self c.in_ok-reserve_turn.ensures.same)
