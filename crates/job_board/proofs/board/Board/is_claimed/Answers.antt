use Rattle.std.proofs.Common.{◌≡◌, ◌<◌, ◌↔◌, ◌==◌, ◌&&◌, ◌∙◌, true, ap}
use Rattle.std.specs.List.{list_any}
use Rattle.plain_answer.specs.declared.ask.Ask.{Ask as Query}
use Rattle.run_history.specs.Histories.{claim_count}
use Rattle.run_history.specs.World.{World}
use Rattle.run_state.specs.declared.parts.Claim.{Claim}
use Rattle.job_board.proofs.Queries.{claim_listed}
use Rattle.job_board.proofs.Added.{forth, w}
use Rattle.job_board.proofs.board.Board.is_claimed.Goals as goal

pub returns : goal.returns
returns g c = forth g.H.Honest.honest c.self.inside.workers c.self.inside.room c.self.inside.names.items c.self.inside.state c.self.inside.log c.args.self.now c.self.view_is c.self.invariant (λ (v : World Query). (c.has_claim.result ≡ true) ↔ (0 < claim_count c.args.job c.args.attempt v.steps))
    (claim_listed (w g.H.Honest.honest c.self.inside.workers c.self.inside.room c.self.inside.names.items c.self.inside.state c.self.inside.log c.args.self.now c.self.view_is c.self.invariant) c.self.inside.state c.self.invariant.state c.args.job c.args.attempt c.has_claim.result (c.has_claim.ensures ∙ ap (list_any (λ (claim : Claim). (claim.job == c.args.job) && (claim.attempt == c.args.attempt))) c.deref.ensures.value))
