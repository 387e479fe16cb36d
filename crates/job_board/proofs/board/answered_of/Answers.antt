use Rattle.std.proofs.Common.{◌∙◌, sym}
use Rattle.job_board.proofs.Queries.{answered_end, answered_later, answered_now}
use Rattle.job_board.proofs.board.answered_of.Goals as goal

pub loop-listed-preserved : goal.loop-listed-preserved
loop-listed-preserved c = answered_later c.args.sessions.now c.loop-listed.listed-index c.args.session (record { session = 0; answered = 0 }) c.loop-listed-test.true c.if-listed-session.false ∙ c.loop-listed.invariant

pub returns-then-listed-session : goal.returns-then-listed-session
returns-then-listed-session c = answered_now c.args.sessions.now c.loop-listed.listed-index c.args.session (record { session = 0; answered = 0 }) c.loop-listed-test.true c.if-listed-session.true ∙ c.loop-listed.invariant

pub returns : goal.returns
returns c = sym (answered_end c.args.sessions.now c.loop-listed.listed-index c.args.session c.loop-listed-test.false) ∙ c.loop-listed.invariant
