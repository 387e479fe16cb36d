use Rattle.std.proofs.Common.{Err, ◌<◌, sym, subst}
use Rattle.fixed_state.specs.Ends.{kept_of}
use Rattle.job_board.specs.BoardModel.{IsAdded, now}
use Rattle.outside.specs.declared.hand.HandFault.TheVariants as fault
use Rattle.plain_answer.specs.declared.ask.Ask.{Ask}
use Rattle.run_history.specs.Commands.Turn.{StepEnds}
use Rattle.run_history.specs.Histories.{claim_count}
use Rattle.run_history.specs.World.{World, job_of}
use Rattle.run_history.specs.declared.event.Outcome.{Outcome}
use Rattle.board_pieces.proofs.Reached.{added-same, now-same}
use Rattle.board_pieces.proofs.Recorded.{no-product, recorded-answer}
use Rattle.board_pieces.proofs.pieces.refuse_step.Goals as goal

pub end_step-requires-clause-claimed : goal.end_step-requires-clause-claimed
end_step-requires-clause-claimed g c = subst (λ (w : World Ask). 0 < claim_count c.args.job c.args.attempt w.steps) (sym (now-same c.args.board.now c.reserve_turn.new.self c.in_ok-reserve_turn.ensures.same)) c.requires

pub end_step-requires-clause-product : goal.end_step-requires-clause-product
end_step-requires-clause-product g c = λ trust. no-product (now c.reserve_turn.new.self) (job_of (now c.reserve_turn.new.self) c.args.job) c.args.attempt fault.Memory

pub returns-clause-ended : goal.returns-clause-ended
returns-clause-ended g c =
    let is = recorded-answer (now c.reserve_turn.new.self) (job_of (now c.reserve_turn.new.self) c.args.job) (kept_of c.reserve_turn.new.self.products c.args.job) c.args.attempt (Err fault.Memory) c.end_step.result c.end_step.ensures.outcome in
    subst (λ (o : Outcome). IsAdded c.args.board.now (StepEnds c.args.job c.args.attempt o) c.end_step.new.self) is
    (added-same c.args.board.now c.reserve_turn.new.self (StepEnds c.args.job c.args.attempt c.end_step.result) c.end_step.new.self c.in_ok-reserve_turn.ensures.same c.end_step.ensures.added)
