use Rattle.std.proofs.Common.{◌≡◌, ◌∙◌, Some, subst, sym}
use Rattle.fixed_cube.specs.Cube.{fixed}
use Rattle.fixed_state.specs.Ends.{kept_of}
use Rattle.job_board.specs.BoardModel.{BoardModel, now, task_of}
use Rattle.run_history.specs.World.{Submitted, job_of, next_task}
use Rattle.job_board.proofs.Claiming.{honest_here, is_task_first, live_here, rows_here, steps_here, task_here, there_here}
use Rattle.job_board.proofs.Added.{added_claim, attempts_small, queued_here, sound_here, w}
use Rattle.job_board.proofs.board.Board.claim.Goals as goal

pub task_of_job-requires-clause-there : goal.task_of_job-requires-clause-there
task_of_job-requires-clause-there g c = there_here g.H.Honest.honest (w g.H.Honest.honest c.self.inside.workers c.self.inside.room c.self.inside.names.items c.self.inside.state c.self.inside.log c.args.self.now c.self.view_is c.self.invariant) c.self.inside.state c.self.invariant.state (sound_here g.H.Honest.honest c.self.inside.workers c.self.inside.room c.self.inside.names.items c.self.inside.state c.self.inside.log c.args.self.now c.self.view_is c.self.invariant) c.self.invariant.kept c.in-Some.job (sym c.front.ensures ∙ c.in-Some.is)

pub task_of_job-requires-clause-rows : goal.task_of_job-requires-clause-rows
task_of_job-requires-clause-rows g c = rows_here g.H.Honest.honest (w g.H.Honest.honest c.self.inside.workers c.self.inside.room c.self.inside.names.items c.self.inside.state c.self.inside.log c.args.self.now c.self.view_is c.self.invariant) c.self.inside.state c.self.invariant.state (sound_here g.H.Honest.honest c.self.inside.workers c.self.inside.room c.self.inside.names.items c.self.inside.state c.self.inside.log c.args.self.now c.self.view_is c.self.invariant) c.self.invariant.kept c.in-Some.job

pub task_of_job-requires-clause-steps : goal.task_of_job-requires-clause-steps
task_of_job-requires-clause-steps g c = steps_here g.H.Honest.honest (w g.H.Honest.honest c.self.inside.workers c.self.inside.room c.self.inside.names.items c.self.inside.state c.self.inside.log c.args.self.now c.self.view_is c.self.invariant) c.self.inside.state c.self.invariant.state (sound_here g.H.Honest.honest c.self.inside.workers c.self.inside.room c.self.inside.names.items c.self.inside.state c.self.inside.log c.args.self.now c.self.view_is c.self.invariant) c.self.invariant.kept c.in-Some.job (sym c.front.ensures ∙ c.in-Some.is)

pub claim-requires-clause-queued : goal.claim-requires-clause-queued
claim-requires-clause-queued g c = queued_here g.H.Honest.honest c.self.inside.workers c.self.inside.room c.self.inside.names.items c.self.inside.state c.self.inside.log c.args.self.now c.self.view_is c.self.invariant

pub claim-requires-clause-attempts : goal.claim-requires-clause-attempts
claim-requires-clause-attempts g c = attempts_small g.H.Honest.honest c.self.inside.workers c.self.inside.room c.self.inside.names.items c.self.inside.state c.self.inside.log c.args.self.now c.self.view_is c.self.invariant

pub invariant_of-self-2 : goal.invariant_of-self-2
invariant_of-self-2 g c = added_claim g.H.Honest.honest c.self.inside.workers c.self.inside.room c.self.inside.names.items c.self.inside.state c.self.inside.log c.args.self.now c.self.view_is c.self.invariant c.requires.room c.claim.new.state c.record_turn.new.log c.in-Some.job c.in-Ok-claim.attempt c.record_turn.ensures c.requires.worker (sym c.front.ensures ∙ c.in-Some.is) (c.in-Ok-claim.ensures.attempt (w g.H.Honest.honest c.self.inside.workers c.self.inside.room c.self.inside.names.items c.self.inside.state c.self.inside.log c.args.self.now c.self.view_is c.self.invariant) c.self.invariant.state) (c.in-Ok-claim.ensures.state (w g.H.Honest.honest c.self.inside.workers c.self.inside.room c.self.inside.names.items c.self.inside.state c.self.inside.log c.args.self.now c.self.view_is c.self.invariant) c.self.invariant.state) c.in-Ok-claim.ensures.kept

pub returns-clause-task : goal.returns-clause-task
returns-clause-task g c = subst (λ (l : BoardModel). (s : Submitted) → job_of (now l) c.in-Some.job ≡ Some s → c.in-Ok.task.items ≡ task_of (now l) s (kept_of l.products c.in-Some.job)) c.self.view_is
    (λ s there. task_here g.H.Honest.honest (w g.H.Honest.honest c.self.inside.workers c.self.inside.room c.self.inside.names.items c.self.inside.state c.self.inside.log c.args.self.now c.self.view_is c.self.invariant) c.self.inside.state c.self.invariant.state (sound_here g.H.Honest.honest c.self.inside.workers c.self.inside.room c.self.inside.names.items c.self.inside.state c.self.inside.log c.args.self.now c.self.view_is c.self.invariant) c.self.invariant.kept c.in-Some.job s c.in-Ok.task.items there (λ entry there. c.in-Ok.ensures entry there))

pub returns-clause-honest_task : goal.returns-clause-honest_task
returns-clause-honest_task g c = subst (λ (l : BoardModel). (s : Submitted) → job_of (now l) c.in-Some.job ≡ Some s → g.H.Honest.honest → c.in-Ok.task.items ≡ next_task fixed (now l) s) c.self.view_is
    (λ s there h. honest_here g.H.Honest.honest (w g.H.Honest.honest c.self.inside.workers c.self.inside.room c.self.inside.names.items c.self.inside.state c.self.inside.log c.args.self.now c.self.view_is c.self.invariant) c.self.inside.state c.self.invariant.state (sound_here g.H.Honest.honest c.self.inside.workers c.self.inside.room c.self.inside.names.items c.self.inside.state c.self.inside.log c.args.self.now c.self.view_is c.self.invariant) c.self.invariant.kept c.in-Some.job s c.in-Ok.task.items there (live_here g.H.Honest.honest (w g.H.Honest.honest c.self.inside.workers c.self.inside.room c.self.inside.names.items c.self.inside.state c.self.inside.log c.args.self.now c.self.view_is c.self.invariant) c.self.inside.state c.self.invariant.state (sound_here g.H.Honest.honest c.self.inside.workers c.self.inside.room c.self.inside.names.items c.self.inside.state c.self.inside.log c.args.self.now c.self.view_is c.self.invariant) c.self.invariant.kept c.in-Some.job (sym c.front.ensures ∙ c.in-Some.is) s there) h (task_here g.H.Honest.honest (w g.H.Honest.honest c.self.inside.workers c.self.inside.room c.self.inside.names.items c.self.inside.state c.self.inside.log c.args.self.now c.self.view_is c.self.invariant) c.self.inside.state c.self.invariant.state (sound_here g.H.Honest.honest c.self.inside.workers c.self.inside.room c.self.inside.names.items c.self.inside.state c.self.inside.log c.args.self.now c.self.view_is c.self.invariant) c.self.invariant.kept c.in-Some.job s c.in-Ok.task.items there (λ entry there. c.in-Ok.ensures entry there)))

pub returns-clause-is_task : goal.returns-clause-is_task
returns-clause-is_task g c = is_task_first g.H.Honest.honest (w g.H.Honest.honest c.self.inside.workers c.self.inside.room c.self.inside.names.items c.self.inside.state c.self.inside.log c.args.self.now c.self.view_is c.self.invariant) c.self.inside.state c.self.invariant.state (sound_here g.H.Honest.honest c.self.inside.workers c.self.inside.room c.self.inside.names.items c.self.inside.state c.self.inside.log c.args.self.now c.self.view_is c.self.invariant) c.self.invariant.kept c.in-Some.job (sym c.front.ensures ∙ c.in-Some.is) c.in-Ok.task.items (λ entry there. c.in-Ok.ensures entry there)
