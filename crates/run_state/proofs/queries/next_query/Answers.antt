use Rattle.std.proofs.Common.{List, not, ap, ◌∙◌}
use Rattle.std.specs.Prelude.{position}
use Rattle.run_state.specs.Orders.{is_asking}
use Rattle.run_state.specs.declared.parts.QueryInFlight.{QueryInFlight}
use Rattle.run_state.specs.declared.parts.WaitingQuery.{WaitingQuery}
use Rattle.run_state.proofs.Lists.{next_found}
use Rattle.run_state.proofs.queries.next_query.Goals as goal

pub returns-clause-next : goal.returns-clause-next
returns-clause-next g c = next_found g.T.TableHandle.rows g.R.ReadyHandle.ready_set c.args.state.now c.first_free.result (c.first_free.ensures ∙ (ap (λ (qs : List QueryInFlight). position (λ (q : WaitingQuery _). not (is_asking qs q.session)) c.deref.result.now) c.deref-2.ensures.value ∙ ap (position (λ (q : WaitingQuery _). not (is_asking c.args.state.now.asked.items q.session))) c.deref.ensures.value))
