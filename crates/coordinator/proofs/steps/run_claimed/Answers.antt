use Rattle.std.proofs.Common.{[], ◌∷◌, arith}
use Rattle.job_board.specs.Ledger.{IsTask, kept_of}
use Rattle.job_board.specs.BoardModel.{now}
use Rattle.plain_answer.specs.declared.ask.Ask.{Ask}
use Rattle.run_history.specs.Commands.Turn.{StepEnds}
use Rattle.run_history.specs.World.{job_of}
use Rattle.coordinator.proofs.Boards.{added-same, grown-added}
use Rattle.coordinator.proofs.Ends.{counted-grown, fault_rises}
use Rattle.step_outcomes.proofs.AnswerFacts.{faults_rose, run_count, runs_rose}
use Rattle.coordinator.proofs.HandAgreementFacts.{recorded-answer}
use Rattle.step_outcomes.proofs.AnswerFacts.{called-by, follows-fails}
use Rattle.std.proofs.Common.{◌≡◌, ℕ, List, sym, subst, inl, inr}
use Rattle.outside.specs.Hands.{call_of, with_call}
use Rattle.coordinator.proofs.steps.run_claimed.Goals as goal

pub returns-clause-counted : goal.returns-clause-counted
returns-clause-counted g c = λ base h.
    let old = c.args.board.now in
    let mid = c.reserve_turn.new.self in
    let turn = StepEnds c.args.work.job c.args.work.attempt c.end_step.result in
    let added = added-same old mid turn c.end_step.new.self c.in_ok-reserve_turn.ensures.same c.end_step.ensures.added in
    let faults = fault_rises (now mid) (job_of (now mid) c.args.work.job) (kept_of mid.products c.args.work.job) c.args.work.attempt c.run-answer.result c.end_step.result c.end_step.ensures.outcome in
    counted-grown g.H.Hand.runs g.H.Hand.faults base (c.args.hand.now ∷ []) (c.run-answer.new.self ∷ []) old c.end_step.new.self (turn ∷ []) 1 _
    (grown-added old turn c.end_step.new.self added) (run_count Ask c.args.work.job c.args.work.attempt c.end_step.result) (omega (arith, faults))
    (runs_rose g.H.Hand.runs c.args.hand.now c.run-answer.new.self c.run-answer.ensures.ran)
    (faults_rose g.H.Hand.faults c.args.hand.now c.run-answer.new.self c.run-answer.result c.run-answer.ensures.faults c.run-answer.ensures.failed) h

-- the end that is recorded, and what the hand did for it
pub returns-clause-ended : goal.returns-clause-ended
returns-clause-ended g c =
    let old = c.args.board.now in
    let mid = c.reserve_turn.new.self in
    let work = c.args.work in
    let answer = c.run-answer.result in
    let outcome = c.end_step.result in
    let bytes = c.as_slice.ensures.value in
    let recorded = recorded-answer (now mid) (job_of (now mid) work.job) (kept_of mid.products work.job) work.attempt answer outcome c.end_step.ensures.outcome in (
      outcome,
      added-same old mid (StepEnds work.job work.attempt outcome) c.end_step.new.self c.in_ok-reserve_turn.ensures.same c.end_step.ensures.added,
      record {
        fails_same = c.run-answer.ensures.fails;
        follows = follows-fails (g.H.Hand.fails c.args.hand.now) work.job work.attempt answer outcome (c.run-answer.ensures.answers_fails (subst IsTask (sym bytes) c.requires.work.is_task)) recorded;
        sound = λ honest. c.end_step.ensures.honest honest;
        called =
            called-by answer outcome (g.H.Hand.calls c.run-answer.new.self ≡ with_call (g.H.Hand.calls c.args.hand.now) (call_of work.job work.attempt work.task.items))
            (g.H.Hand.calls c.run-answer.new.self ≡ g.H.Hand.calls c.args.hand.now) recorded
            (λ h. subst (λ (task : List ℕ). g.H.Hand.calls c.run-answer.new.self ≡ with_call (g.H.Hand.calls c.args.hand.now) (call_of work.job work.attempt task)) bytes (c.run-answer.ensures.called h))
            (λ h. elim (c.run-answer.ensures.called_memory h) [
              | inl k ↦ inl (subst (λ (task : List ℕ). g.H.Hand.calls c.run-answer.new.self ≡ with_call (g.H.Hand.calls c.args.hand.now) (call_of work.job work.attempt task)) bytes k)
              | inr k ↦ inr k
            ]);
      },
    )
