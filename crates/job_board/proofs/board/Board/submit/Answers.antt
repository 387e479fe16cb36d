use Rattle.std.proofs.Common.{ℕ, List, ◌∙◌, ap, arith, sym}
use Rattle.job_machine.specs.declared.state.JobKind.TheVariants.{Build}
use Rattle.run_history.specs.Commands.Command.{Submit}
use Rattle.run_history.specs.Verdicts.{verdict}
use Rattle.run_state.specs.Answers.{named}
use Rattle.step_fields.specs.Fits.{IsDayRange}
use Rattle.job_board.proofs.Added.{added_refused, added_submit, jobs_small, queued_here, w}
use Rattle.job_board.proofs.board.Board.submit.Goals as goal

pub submit-requires-clause-queued : goal.submit-requires-clause-queued
submit-requires-clause-queued g c = queued_here g.H.Honest.honest c.self.inside.workers c.self.inside.room c.self.inside.names.items c.self.inside.state c.self.inside.log c.args.self.now c.self.view_is c.self.invariant

pub submit-requires-clause-few : goal.submit-requires-clause-few
submit-requires-clause-few g c = jobs_small g.H.Honest.honest c.self.inside.workers c.self.inside.room c.self.inside.names.items c.self.inside.state c.self.inside.log c.args.self.now c.self.view_is c.self.invariant

pub invariant_of-self : goal.invariant_of-self
invariant_of-self g c =
    let days : IsDayRange c.args.range = (omega (arith, c.end.ensures), omega (arith, c.end.ensures, c.number-last_day.ensures)) in
    let refuses = sym (ap (λ (names : List (List ℕ)). verdict (named names) (w g.H.Honest.honest c.self.inside.workers c.self.inside.room c.self.inside.names.items c.self.inside.state c.self.inside.log c.args.self.now c.self.view_is c.self.invariant) (Submit Build c.args.range)) c.deref.ensures.value) ∙ sym (sym c.in-Ok-Some.field-0-is ∙ c.in-Ok-Some.ensures (w g.H.Honest.honest c.self.inside.workers c.self.inside.room c.self.inside.names.items c.self.inside.state c.self.inside.log c.args.self.now c.self.view_is c.self.invariant) c.self.invariant.state) in
    added_refused g.H.Honest.honest c.self.inside.workers c.self.inside.room c.self.inside.names.items c.self.inside.state c.self.inside.log c.args.self.now c.self.view_is c.self.invariant c.requires.room c.set_line.new.state c.record_turn.new.log c.args.line c.args.range c.in-Ok-Some.refused c.record_turn.ensures c.requires.above days refuses (c.set_line.ensures.state (w g.H.Honest.honest c.self.inside.workers c.self.inside.room c.self.inside.names.items c.self.inside.state c.self.inside.log c.args.self.now c.self.view_is c.self.invariant) c.self.invariant.state) c.set_line.ensures.kept

pub invariant_of-self-2 : goal.invariant_of-self-2
invariant_of-self-2 g c =
    let days : IsDayRange c.args.range = (omega (arith, c.end.ensures), omega (arith, c.end.ensures, c.number-last_day.ensures)) in
    let accepts = sym (ap (λ (names : List (List ℕ)). verdict (named names) (w g.H.Honest.honest c.self.inside.workers c.self.inside.room c.self.inside.names.items c.self.inside.state c.self.inside.log c.args.self.now c.self.view_is c.self.invariant) (Submit Build c.args.range)) c.deref.ensures.value) ∙ sym (sym c.in-Ok-None.field-0-is ∙ c.in-Ok-None.ensures (w g.H.Honest.honest c.self.inside.workers c.self.inside.room c.self.inside.names.items c.self.inside.state c.self.inside.log c.args.self.now c.self.view_is c.self.invariant) c.self.invariant.state) in
    added_submit g.H.Honest.honest c.self.inside.workers c.self.inside.room c.self.inside.names.items c.self.inside.state c.self.inside.log c.args.self.now c.self.view_is c.self.invariant c.requires.room c.submit.new.state c.record_turn-2.new.log c.args.line c.args.range c.record_turn-2.ensures c.requires.above days accepts (c.in-Ok.ensures.state (w g.H.Honest.honest c.self.inside.workers c.self.inside.room c.self.inside.names.items c.self.inside.state c.self.inside.log c.args.self.now c.self.view_is c.self.invariant) c.self.invariant.state) c.in-Ok.ensures.products c.in-Ok.ensures.ready
