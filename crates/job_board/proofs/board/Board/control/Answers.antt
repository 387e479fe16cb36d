use Rattle.std.proofs.Common.{◌≡◌, ◌∙◌, ap, subst}
use Rattle.plain_answer.specs.declared.ask.Ask.{Ask as Query}
use Rattle.run_history.specs.World.{World, job_of}
use Rattle.run_state.specs.Answers.{products_steered, refusal_of}
use Rattle.run_state.specs.Orders.{products_of}
use Rattle.job_board.specs.BoardModel.{BoardModel}
use Rattle.job_board.proofs.Added.{added_steer, queued_here, w}
use Rattle.job_board.proofs.board.Board.control.Goals as goal

pub control_job-answer-requires-clause-queued : goal.control_job-answer-requires-clause-queued
control_job-answer-requires-clause-queued g c = queued_here g.H.Honest.honest c.self.inside.workers c.self.inside.room c.self.inside.names.items c.self.inside.state c.self.inside.log c.args.self.now c.self.view_is c.self.invariant

pub invariant_of-self : goal.invariant_of-self
invariant_of-self g c = added_steer g.H.Honest.honest c.self.inside.workers c.self.inside.room c.self.inside.names.items c.self.inside.state c.self.inside.log c.args.self.now c.self.view_is c.self.invariant c.requires.room c.control_job-answer.new.state c.record_turn.new.log c.args.line c.args.job c.args.control c.record_turn.ensures c.requires.above
    (c.control_job-answer.ensures.state (w g.H.Honest.honest c.self.inside.workers c.self.inside.room c.self.inside.names.items c.self.inside.state c.self.inside.log c.args.self.now c.self.view_is c.self.invariant) c.self.invariant.state) c.control_job-answer.result
    (c.control_job-answer.ensures.answer (w g.H.Honest.honest c.self.inside.workers c.self.inside.room c.self.inside.names.items c.self.inside.state c.self.inside.log c.args.self.now c.self.view_is c.self.invariant) c.self.invariant.state) c.control_job-answer.ensures.products c.control_job-answer.ensures.ready

pub returns-clause-products : goal.returns-clause-products
returns-clause-products g c = subst (λ (l : BoardModel). products_of c.control_job-answer.new.state ≡ products_steered c.args.control (refusal_of c.control_job-answer.result) c.args.job l.products) c.self.view_is c.control_job-answer.ensures.products
