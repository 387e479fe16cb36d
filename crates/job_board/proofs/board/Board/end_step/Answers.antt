use Rattle.std.proofs.Common.{◌≡◌, ◌∙◌, ap, subst}
use Rattle.fixed_state.specs.Ends.{IsProductOf, kept_of, products_after}
use Rattle.job_board.specs.BoardModel.{IsRecordedAs, BoardModel, ended_of, now}
use Rattle.job_machine.specs.declared.state.Ended.{Ended}
use Rattle.plain_answer.specs.declared.ask.Ask.{Ask as Query}
use Rattle.run_history.specs.World.{World, job_of}
use Rattle.run_state.specs.Orders.{products_of}
use Rattle.job_board.proofs.Ending.{ended_same, never_damaged, recorded_here}
use Rattle.job_board.proofs.Added.{added_end, back, fixed_here, sound_here, version_small, w}
use Rattle.job_board.proofs.board.Board.end_step.Goals as goal

pub end_step-outcome-requires-clause-fixed_state : goal.end_step-outcome-requires-clause-fixed_state
end_step-outcome-requires-clause-fixed_state g c = fixed_here g.H.Honest.honest c.self.inside.workers c.self.inside.room c.self.inside.names.items c.self.inside.state c.self.inside.log c.args.self.now c.self.view_is c.self.invariant

pub end_step-outcome-requires-clause-version : goal.end_step-outcome-requires-clause-version
end_step-outcome-requires-clause-version g c = version_small g.H.Honest.honest c.self.inside.workers c.self.inside.room c.self.inside.names.items c.self.inside.state c.self.inside.log c.args.self.now c.self.view_is c.self.invariant

pub invariant_of-self : goal.invariant_of-self
invariant_of-self g c = added_end g.H.Honest.honest c.self.inside.workers c.self.inside.room c.self.inside.names.items c.self.inside.state c.self.inside.log c.args.self.now c.self.view_is c.self.invariant c.requires.room c.end_step-outcome.new.state c.record_turn.new.log c.args.job c.args.attempt c.end_step-outcome.result c.record_turn.ensures c.requires.claimed (c.end_step-outcome.ensures.state (w g.H.Honest.honest c.self.inside.workers c.self.inside.room c.self.inside.names.items c.self.inside.state c.self.inside.log c.args.self.now c.self.view_is c.self.invariant) c.self.invariant.state)
    (c.end_step-outcome.ensures.kept (w g.H.Honest.honest c.self.inside.workers c.self.inside.room c.self.inside.names.items c.self.inside.state c.self.inside.log c.args.self.now c.self.view_is c.self.invariant) c.self.invariant.state c.self.invariant.kept (λ h. (back g.H.Honest.honest c.self.inside.workers c.self.inside.room c.self.inside.names.items c.self.inside.state c.self.inside.log c.args.self.now c.self.view_is c.self.invariant (λ (v : World Query). IsProductOf v (job_of v c.args.job) c.args.attempt c.args.answer) (c.requires.product h))))

pub returns-clause-outcome : goal.returns-clause-outcome
returns-clause-outcome g c = subst (λ (l : BoardModel). IsRecordedAs (now l) (job_of (now l) c.args.job) (kept_of l.products c.args.job) c.args.attempt c.args.answer c.end_step-outcome.result) c.self.view_is (recorded_here g.H.Honest.honest (w g.H.Honest.honest c.self.inside.workers c.self.inside.room c.self.inside.names.items c.self.inside.state c.self.inside.log c.args.self.now c.self.view_is c.self.invariant) c.self.inside.state c.self.invariant.state (sound_here g.H.Honest.honest c.self.inside.workers c.self.inside.room c.self.inside.names.items c.self.inside.state c.self.inside.log c.args.self.now c.self.view_is c.self.invariant) c.self.invariant.kept c.args.job c.args.attempt c.args.answer c.end_step-outcome.result c.end_step-outcome.ensures.stale c.end_step-outcome.ensures.outcome)

pub returns-clause-honest : goal.returns-clause-honest
returns-clause-honest g c = λ h e. never_damaged g.H.Honest.honest (w g.H.Honest.honest c.self.inside.workers c.self.inside.room c.self.inside.names.items c.self.inside.state c.self.inside.log c.args.self.now c.self.view_is c.self.invariant) c.self.inside.state c.self.invariant.state (sound_here g.H.Honest.honest c.self.inside.workers c.self.inside.room c.self.inside.names.items c.self.inside.state c.self.inside.log c.args.self.now c.self.view_is c.self.invariant) c.self.invariant.kept c.args.job c.args.attempt c.args.answer c.end_step-outcome.result h (back g.H.Honest.honest c.self.inside.workers c.self.inside.room c.self.inside.names.items c.self.inside.state c.self.inside.log c.args.self.now c.self.view_is c.self.invariant (λ (v : World Query). IsProductOf v (job_of v c.args.job) c.args.attempt c.args.answer) (c.requires.product h)) (recorded_here g.H.Honest.honest (w g.H.Honest.honest c.self.inside.workers c.self.inside.room c.self.inside.names.items c.self.inside.state c.self.inside.log c.args.self.now c.self.view_is c.self.invariant) c.self.inside.state c.self.invariant.state (sound_here g.H.Honest.honest c.self.inside.workers c.self.inside.room c.self.inside.names.items c.self.inside.state c.self.inside.log c.args.self.now c.self.view_is c.self.invariant) c.self.invariant.kept c.args.job c.args.attempt c.args.answer c.end_step-outcome.result c.end_step-outcome.ensures.stale c.end_step-outcome.ensures.outcome) e

pub returns-clause-products : goal.returns-clause-products
returns-clause-products g c = subst (λ (l : BoardModel). products_of c.end_step-outcome.new.state ≡ products_after (ended_of (job_of (now l) c.args.job) c.args.attempt c.end_step-outcome.result) c.args.job c.args.answer l.products) c.self.view_is
    (c.end_step-outcome.ensures.products ∙ ap (λ (ended : Ended). products_after ended c.args.job c.args.answer (products_of c.self.inside.state)) (ended_same g.H.Honest.honest (w g.H.Honest.honest c.self.inside.workers c.self.inside.room c.self.inside.names.items c.self.inside.state c.self.inside.log c.args.self.now c.self.view_is c.self.invariant) c.self.inside.state c.self.invariant.state (sound_here g.H.Honest.honest c.self.inside.workers c.self.inside.room c.self.inside.names.items c.self.inside.state c.self.inside.log c.args.self.now c.self.view_is c.self.invariant) c.self.invariant.kept c.args.job c.args.attempt c.args.answer c.end_step-outcome.result))
