use Rattle.std.proofs.Common.{List, sym, ap, ◌∙◌}
use Rattle.run_state.specs.Orders.{is_current_at}
use Rattle.run_state.specs.States.{entry_at}
use Rattle.fixed_state.specs.Ready.{ReadyModel}
use Rattle.fixed_state.specs.States.{FixedEntry}
use Rattle.fixed_state.proofs.EndFacts.{kept_again, stale_now}
use Rattle.fixed_state.proofs.ends.end_step.Goals as goal

pub returns-clause-kept : goal.returns-clause-kept
returns-clause-kept g c = λ w i k product.
    let stale = sym (c.is_current.ensures ∙ ap (λ (jobs : List FixedEntry). is_current_at (entry_at jobs c.args.job) c.args.attempt) c.deref.ensures.value) ∙ c.if-is_current.false in
    kept_again g.H.Honest.honest _ _ _ _ _ c.end_stale.ensures.kept.products (ap (λ (r : ReadyModel). r.cells) c.end_stale.ensures.kept.ready)
    (stale_now g.H.Honest.honest w c.args.state.now c.args.job c.args.attempt c.stale_outcome.result i k stale)
