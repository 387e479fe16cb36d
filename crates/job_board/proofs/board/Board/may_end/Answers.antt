use Rattle.std.proofs.Common.{◌≡◌, ◌≤◌, ◌↔◌, ◌==◌, ◌∙◌, ℕ, List, true, false, ap, subst, sym}
use Rattle.std.specs.Prelude.{find}
use Rattle.plain_answer.specs.declared.ask.Ask.{Ask as Query}
use Rattle.run_history.specs.Commands.Turn.{QueryEnds}
use Rattle.run_history.specs.Histories.{IsFresh, IsInFlight}
use Rattle.run_history.specs.World.{World}
use Rattle.run_history.specs.declared.event.QueryOut.{QueryOut}
use Rattle.run_state.specs.States.{answered_in}
use Rattle.run_state.specs.declared.parts.Session.{Session}
use Rattle.run_state.specs.declared.parts.QueryInFlight.{QueryInFlight}
use Rattle.job_board.proofs.Queries.{lawful_here, memory_here, no_end}
use Rattle.job_board.proofs.Added.{forth, w}
use Rattle.job_board.proofs.board.Board.may_end.Goals as goal

pub returns-in_default : goal.returns-in_default
returns-in_default g c = forth g.H.Honest.honest c.self.inside.workers c.self.inside.room c.self.inside.names.items c.self.inside.state c.self.inside.log c.args.self.now c.self.view_is c.self.invariant (λ (v : World Query). (false ≡ true) ↔ (IsInFlight v c.args.line × IsFresh v (QueryEnds c.args.line c.args.out.now)))
    (no_end (w g.H.Honest.honest c.self.inside.workers c.self.inside.room c.self.inside.names.items c.self.inside.state c.self.inside.log c.args.self.now c.self.view_is c.self.invariant) c.self.inside.state c.self.invariant.state c.args.line c.args.out.now (sym (ap (find (λ (q : QueryInFlight). q.line == c.args.line)) c.deref.ensures.value) ∙ (sym c.query_of.ensures ∙ c.in_default.is)))

pub returns-in-Memory : goal.returns-in-Memory
returns-in-Memory g c = forth g.H.Honest.honest c.self.inside.workers c.self.inside.room c.self.inside.names.items c.self.inside.state c.self.inside.log c.args.self.now c.self.view_is c.self.invariant (λ (v : World Query). (true ≡ true) ↔ (IsInFlight v c.args.line × IsFresh v (QueryEnds c.args.line c.args.out.now)))
    (subst (λ (out : QueryOut). (true ≡ true) ↔ (IsInFlight (w g.H.Honest.honest c.self.inside.workers c.self.inside.room c.self.inside.names.items c.self.inside.state c.self.inside.log c.args.self.now c.self.view_is c.self.invariant) c.args.line × IsFresh (w g.H.Honest.honest c.self.inside.workers c.self.inside.room c.self.inside.names.items c.self.inside.state c.self.inside.log c.args.self.now c.self.view_is c.self.invariant) (QueryEnds c.args.line out))) (sym c.in-Memory.is) (memory_here (w g.H.Honest.honest c.self.inside.workers c.self.inside.room c.self.inside.names.items c.self.inside.state c.self.inside.log c.args.self.now c.self.view_is c.self.invariant) c.self.inside.state c.self.invariant.state c.args.line c.in-Some.query (sym (ap (find (λ (q : QueryInFlight). q.line == c.args.line)) c.deref.ensures.value) ∙ (sym c.query_of.ensures ∙ c.in-Some.is))))

pub returns-in-Answered : goal.returns-in-Answered
returns-in-Answered g c = forth g.H.Honest.honest c.self.inside.workers c.self.inside.room c.self.inside.names.items c.self.inside.state c.self.inside.log c.args.self.now c.self.view_is c.self.invariant (λ (v : World Query). (c.is_lawful.result ≡ true) ↔ (IsInFlight v c.args.line × IsFresh v (QueryEnds c.args.line c.args.out.now)))
    (subst (λ (out : QueryOut). (c.is_lawful.result ≡ true) ↔ (IsInFlight (w g.H.Honest.honest c.self.inside.workers c.self.inside.room c.self.inside.names.items c.self.inside.state c.self.inside.log c.args.self.now c.self.view_is c.self.invariant) c.args.line × IsFresh (w g.H.Honest.honest c.self.inside.workers c.self.inside.room c.self.inside.names.items c.self.inside.state c.self.inside.log c.args.self.now c.self.view_is c.self.invariant) (QueryEnds c.args.line out))) (sym c.in-Answered.is) (lawful_here (w g.H.Honest.honest c.self.inside.workers c.self.inside.room c.self.inside.names.items c.self.inside.state c.self.inside.log c.args.self.now c.self.view_is c.self.invariant) c.self.inside.state c.self.invariant.state c.args.line c.in-Some.query (sym (ap (find (λ (q : QueryInFlight). q.line == c.args.line)) c.deref.ensures.value) ∙ (sym c.query_of.ensures ∙ c.in-Some.is)) c.in-Answered.version c.answered_of-answered.result c.is_lawful.result
    (c.answered_of-answered.ensures ∙ ap (λ (sessions : List Session). answered_in sessions c.in-Some.query.session) c.deref-in-Answered.ensures.value) (subst (λ (last : ℕ). (c.is_lawful.result ≡ true) ↔ ((c.in-Some.query.at_command ≤ c.in-Answered.version) × (c.in-Some.query.at_take ≤ c.in-Answered.version) × (c.answered_of-answered.result ≤ c.in-Answered.version) × (c.in-Answered.version ≤ last))) c.version.ensures c.is_lawful.ensures)))
