use Rattle.std.proofs.Common.{[], ◌∷◌, refl}
use Rattle.run_history.specs.Commands.Turn.{Claims}
use Rattle.coordinator.proofs.Boards.{grown-added}
use Rattle.coordinator.proofs.Ends.{counted-silent}
use Rattle.coordinator.proofs.Worked.{idle-ended, worked-claim, worked-step, worked-then}
use Rattle.std.proofs.Common.{sym, subst}
use Rattle.coordinator.specs.HandAgreement.{AgreesWithHand}
use Rattle.coordinator.proofs.HandAgreementFacts.{agrees-claim, agrees-same, agrees-step}
use Rattle.coordinator.proofs.steps.run_step.Goals as goal

-- a step was claimed, and its end is not recorded
pub returns-in_err-run_claimed-in-Some-clause-worked : goal.returns-in_err-run_claimed-in-Some-clause-worked
returns-in_err-run_claimed-in-Some-clause-worked g c =
    let claimed = rw c.in-Some.is at c.in_ok-work.ensures.some in
    worked-then c.args.board.now c.claim_step.new.board c.run_claimed.new.board
    (worked-claim c.args.board.now c.claim_step.new.board c.in-Some.work.job c.in-Some.work.attempt claimed.added) c.in_err-run_claimed-in-Some.ensures.err

-- a step from its claim to its end
pub returns-in_ok-run_claimed-in-Some-clause-worked : goal.returns-in_ok-run_claimed-in-Some-clause-worked
returns-in_ok-run_claimed-in-Some-clause-worked g c =
    let claimed = rw c.in-Some.is at c.in_ok-work.ensures.some in
    let ended = c.in_ok-run_claimed-in-Some.ensures.ended in
    worked-step c.args.board.now c.claim_step.new.board c.run_claimed.new.board c.in-Some.work.job c.in-Some.work.attempt ended.0 claimed.added ended.1

pub returns-in_ok-run_claimed-in-Some-clause-idle : goal.returns-in_ok-run_claimed-in-Some-clause-idle
returns-in_ok-run_claimed-in-Some-clause-idle g c =
    let claimed = rw c.in-Some.is at c.in_ok-work.ensures.some in
    let ended = c.in_ok-run_claimed-in-Some.ensures.ended in
    idle-ended c.claim_step.new.board c.run_claimed.new.board c.in-Some.work.job c.in-Some.work.attempt ended.0 ended.1 claimed.work_of.stepping

pub returns-in_ok-run_claimed-in-Some-clause-counted : goal.returns-in_ok-run_claimed-in-Some-clause-counted
returns-in_ok-run_claimed-in-Some-clause-counted g c = λ base h.
    let claimed = rw c.in-Some.is at c.in_ok-work.ensures.some in
    c.run_claimed.ensures.counted base
    (counted-silent g.H.Hand.runs g.H.Hand.faults base (c.args.hand.now ∷ []) c.args.board.now c.claim_step.new.board (Claims c.in-Some.work.job c.in-Some.work.attempt ∷ [])
    (grown-added c.args.board.now (Claims c.in-Some.work.job c.in-Some.work.attempt) c.claim_step.new.board claimed.added) refl refl h)

pub returns-in_err-run_claimed-in-Some-clause-counted : goal.returns-in_err-run_claimed-in-Some-clause-counted
returns-in_err-run_claimed-in-Some-clause-counted g c = λ base h.
    let claimed = rw c.in-Some.is at c.in_ok-work.ensures.some in
    c.run_claimed.ensures.counted base
    (counted-silent g.H.Hand.runs g.H.Hand.faults base (c.args.hand.now ∷ []) c.args.board.now c.claim_step.new.board (Claims c.in-Some.work.job c.in-Some.work.attempt ∷ [])
    (grown-added c.args.board.now (Claims c.in-Some.work.job c.in-Some.work.attempt) c.claim_step.new.board claimed.added) refl refl h)

pub returns-in_err-work-clause-agrees : goal.returns-in_err-work-clause-agrees
returns-in_err-work-clause-agrees g c = λ base t.
    agrees-same g.H.Honest.honest g.H.Hand.fails g.H.Hand.calls base c.args.hand.now c.args.board.now c.claim_step.new.board c.in_err-work.ensures.err t

pub returns-in-None-clause-agrees : goal.returns-in-None-clause-agrees
returns-in-None-clause-agrees g c = λ base t.
    agrees-same g.H.Honest.honest g.H.Hand.fails g.H.Hand.calls base c.args.hand.now c.args.board.now c.claim_step.new.board (c.in_ok-work.ensures.none c.in-None.is) t

pub returns-in_err-run_claimed-in-Some-clause-agrees : goal.returns-in_err-run_claimed-in-Some-clause-agrees
returns-in_err-run_claimed-in-Some-clause-agrees g c = λ base t.
    let work = c.in-Some.work in
    let claimed = rw c.in-Some.is at c.in_ok-work.ensures.some in
    let mid = agrees-claim g.H.Honest.honest g.H.Hand.fails g.H.Hand.calls base c.args.hand.now c.args.board.now c.claim_step.new.board work.job work.attempt claimed.added t in
    let new = agrees-same g.H.Honest.honest g.H.Hand.fails g.H.Hand.calls base c.args.hand.now c.claim_step.new.board c.run_claimed.new.board c.in_err-run_claimed-in-Some.ensures.err mid in
    subst (λ hand. AgreesWithHand g.H.Honest.honest g.H.Hand.fails g.H.Hand.calls base hand c.run_claimed.new.board) (sym c.in_err-run_claimed-in-Some.ensures.same) new

pub returns-in_ok-run_claimed-in-Some-clause-agrees : goal.returns-in_ok-run_claimed-in-Some-clause-agrees
returns-in_ok-run_claimed-in-Some-clause-agrees g c = λ base t.
    let claimed = rw c.in-Some.is at c.in_ok-work.ensures.some in
    let ended = c.in_ok-run_claimed-in-Some.ensures.ended in
    agrees-step g.H.Honest.honest g.H.Hand.fails g.H.Hand.calls base c.args.hand.now c.run_claimed.new.hand c.args.board.now c.claim_step.new.board c.run_claimed.new.board c.in-Some.work ended.0
    claimed ended.1 ended.2 t
