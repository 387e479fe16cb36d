use Rattle.std.proofs.Common.{◌≡◌}
use Rattle.worker_pool.specs.Pools.{IsStarted, pieces}
use Rattle.worker_pool.specs.declared.piece.Piece.TheVariants.{Step}
use Rattle.board_pieces.proofs.KeepUp.{err-when, ok-when, given-step, given-pieces, keep-started, refused-step_keeps, refused-step_pieces}
use Rattle.board_pieces.proofs.Moves.{has-claim}
use Rattle.board_pieces.proofs.Reached.{same-refl}
use Rattle.board_pieces.proofs.pieces.give_step.Goals as goal

pub refuse_step-requires : goal.refuse_step-requires
refuse_step-requires g c = has-claim g.H.Honest.honest c.args.board.now c.args.board.now c.args.work (pieces c.args.pool.now) (record { legal = c.note_history.ensures.legal; fresh = c.note_history.ensures.fresh }) c.requires.pieces.in_flight

pub returns-then-started-clause-pieces : goal.returns-then-started-clause-pieces
returns-then-started-clause-pieces g c = given-pieces g.H.Honest.honest g.H.Hand.runs g.H.Hand.faults g.H.Hand.fails g.H.Hand.calls c.args.board.now (Step c.args.work) c.args.pool.now c.start_step-refused.new.self (ok-when c.start_step-refused.result c.is_ok-started.result (IsStarted (Step c.args.work) c.args.pool.now c.start_step-refused.new.self) c.is_ok-started.ensures.value c.if-started.true c.start_step-refused.ensures.ok) c.requires.pieces

pub returns-then-started-clause-turns : goal.returns-then-started-clause-turns
returns-then-started-clause-turns g c = same-refl c.args.board.now

pub returns-then-started-clause-hands : goal.returns-then-started-clause-hands
returns-then-started-clause-hands g c = keep-started g.H.Honest.honest g.H.Hand.runs g.H.Hand.faults g.H.Hand.fails g.H.Hand.calls c.args.board.now (Step c.args.work) c.args.pool.now c.start_step-refused.new.self (ok-when c.start_step-refused.result c.is_ok-started.result (IsStarted (Step c.args.work) c.args.pool.now c.start_step-refused.new.self) c.is_ok-started.ensures.value c.if-started.true c.start_step-refused.ensures.ok)

pub returns-clause-pieces : goal.returns-clause-pieces
returns-clause-pieces g c = refused-step_pieces g.H.Honest.honest g.H.Hand.runs g.H.Hand.faults g.H.Hand.fails g.H.Hand.calls c.refuse_step.result c.args.board.now c.refuse_step.new.board c.args.pool.now c.start_step-refused.new.self (err-when c.start_step-refused.result c.is_ok-started.result (c.start_step-refused.new.self ≡ c.args.pool.now) c.is_ok-started.ensures.value c.if-started.false c.start_step-refused.ensures.err) c.args.work c.requires.pieces (record { legal = c.note_history.ensures.legal; fresh = c.note_history.ensures.fresh }) c.refuse_step.ensures.ended

pub returns-clause-turns : goal.returns-clause-turns
returns-clause-turns g c = given-step c.refuse_step.result c.args.work.job c.args.work.attempt c.args.board.now c.refuse_step.new.board c.refuse_step.ensures.ended c.refuse_step.ensures.turn

pub returns-clause-hands : goal.returns-clause-hands
returns-clause-hands g c = refused-step_keeps g.H.Honest.honest g.H.Hand.runs g.H.Hand.faults g.H.Hand.fails g.H.Hand.calls c.refuse_step.result c.args.board.now c.refuse_step.new.board c.args.pool.now c.start_step-refused.new.self (err-when c.start_step-refused.result c.is_ok-started.result (c.start_step-refused.new.self ≡ c.args.pool.now) c.is_ok-started.ensures.value c.if-started.false c.start_step-refused.ensures.err) c.args.work.job c.args.work.attempt c.refuse_step.ensures.ended c.refuse_step.ensures.err
