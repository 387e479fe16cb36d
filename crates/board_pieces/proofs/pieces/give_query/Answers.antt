use Rattle.std.proofs.Common.{◌≡◌}
use Rattle.worker_pool.specs.Pools.{IsStarted, pieces}
use Rattle.worker_pool.specs.declared.piece.Piece.TheVariants.{Query}
use Rattle.board_pieces.proofs.KeepUp.{err-when, ok-when, given-query, given-pieces, keep-started, refused-query_keeps, refused-query_pieces}
use Rattle.board_pieces.proofs.Moves.{asked-there}
use Rattle.board_pieces.proofs.Reached.{same-refl}
use Rattle.board_pieces.proofs.pieces.give_query.Goals as goal

pub refuse_query-requires : goal.refuse_query-requires
refuse_query-requires g c = asked-there g.H.Honest.honest c.args.board.now c.args.board.now c.args.query (pieces c.args.pool.now) (record { legal = c.note_history.ensures.legal; fresh = c.note_history.ensures.fresh }) c.requires.pieces.in_flight

pub returns-then-started-clause-pieces : goal.returns-then-started-clause-pieces
returns-then-started-clause-pieces g c = given-pieces g.H.Honest.honest g.H.Hand.runs g.H.Hand.faults g.H.Hand.fails g.H.Hand.calls c.args.board.now (Query c.args.query) c.args.pool.now c.start_query-refused.new.self (ok-when c.start_query-refused.result c.is_ok-started.result (IsStarted (Query c.args.query) c.args.pool.now c.start_query-refused.new.self) c.is_ok-started.ensures.value c.if-started.true c.start_query-refused.ensures.ok) c.requires.pieces

pub returns-then-started-clause-turns : goal.returns-then-started-clause-turns
returns-then-started-clause-turns g c = same-refl c.args.board.now

pub returns-then-started-clause-hands : goal.returns-then-started-clause-hands
returns-then-started-clause-hands g c = keep-started g.H.Honest.honest g.H.Hand.runs g.H.Hand.faults g.H.Hand.fails g.H.Hand.calls c.args.board.now (Query c.args.query) c.args.pool.now c.start_query-refused.new.self (ok-when c.start_query-refused.result c.is_ok-started.result (IsStarted (Query c.args.query) c.args.pool.now c.start_query-refused.new.self) c.is_ok-started.ensures.value c.if-started.true c.start_query-refused.ensures.ok)

pub returns-clause-pieces : goal.returns-clause-pieces
returns-clause-pieces g c = refused-query_pieces g.H.Honest.honest g.H.Hand.runs g.H.Hand.faults g.H.Hand.fails g.H.Hand.calls c.refuse_query.result c.args.board.now c.refuse_query.new.board c.args.pool.now c.start_query-refused.new.self (err-when c.start_query-refused.result c.is_ok-started.result (c.start_query-refused.new.self ≡ c.args.pool.now) c.is_ok-started.ensures.value c.if-started.false c.start_query-refused.ensures.err) c.args.query c.requires.pieces (record { legal = c.note_history.ensures.legal; fresh = c.note_history.ensures.fresh }) c.refuse_query.ensures.ended

pub returns-clause-turns : goal.returns-clause-turns
returns-clause-turns g c = given-query c.refuse_query.result c.args.query.line c.args.board.now c.refuse_query.new.board c.refuse_query.ensures.ended c.refuse_query.ensures.turn

pub returns-clause-hands : goal.returns-clause-hands
returns-clause-hands g c = refused-query_keeps g.H.Honest.honest g.H.Hand.runs g.H.Hand.faults g.H.Hand.fails g.H.Hand.calls c.refuse_query.result c.args.board.now c.refuse_query.new.board c.args.pool.now c.start_query-refused.new.self (err-when c.start_query-refused.result c.is_ok-started.result (c.start_query-refused.new.self ≡ c.args.pool.now) c.is_ok-started.ensures.value c.if-started.false c.start_query-refused.ensures.err) c.args.query.line c.refuse_query.ensures.ended c.refuse_query.ensures.err
