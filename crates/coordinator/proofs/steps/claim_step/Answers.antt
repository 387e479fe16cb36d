use Rattle.coordinator.proofs.Worked.{claimed-step}
use Rattle.coordinator.proofs.steps.claim_step.Goals as goal

pub returns-clause-some : goal.returns-clause-some
returns-clause-some g c =
    claimed-step g.H.Honest.honest c.args.board.now c.reserve_turn.new.self c.claim.new.self c.in_ok-reserve_turn.ensures.same c.requires c.claim.result
    c.claim.ensures.added c.claim.ensures.attempt c.claim.ensures.honest_task c.claim.ensures.is_task
