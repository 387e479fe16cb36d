use Rattle.std.proofs.Common.{List, sym, ap, ◌∙◌, subst}
use Rattle.run_state.specs.States.{answered_in}
use Rattle.run_state.specs.Orderly.{AreListed}
use Rattle.run_state.specs.declared.parts.Session.{Session}
use Rattle.run_state.proofs.Lists.{has_last, answered_more, listed_more}
use Rattle.run_state.proofs.queries.list_session.Goals as goal

pub returns-in_ok-push-clause-listed : goal.returns-in_ok-push-clause-listed
returns-in_ok-push-clause-listed c = rw c.in_ok-push.ensures.items (has_last c.args.sessions.now.items (record { session = c.args.session; answered = 0 }))

pub returns-in_ok-push-clause-answers : goal.returns-in_ok-push-clause-answers
returns-in_ok-push-clause-answers c = λ other. ap (λ (l : List Session). answered_in l other) c.in_ok-push.ensures.items ∙ answered_more c.args.sessions.now.items c.args.session other

pub returns-in_ok-push-clause-others : goal.returns-in_ok-push-clause-others
returns-in_ok-push-clause-others c = λ listed h. subst (λ (l : List Session). AreListed l listed) (sym c.in_ok-push.ensures.items) (listed_more c.args.sessions.now.items (record { session = c.args.session; answered = 0 }) listed h)
