use Rattle.std.proofs.Common.{sym, ap, ◌∙◌, subst}
use Rattle.run_state.specs.Answers.{is_failure}
use Rattle.run_state.specs.Orders.{products_of}
use Rattle.fixed_state.specs.Ends.{Answer, IsOutcomeOf, kept_of}
use Rattle.fixed_state.specs.Ready.{ReadyModel}
use Rattle.fixed_state.specs.Tasks.{task_kept}
use Rattle.fixed_state.proofs.EndFacts.{failed_now, kept_again, outcome_fails, still_current, there_is}
use Rattle.fixed_state.proofs.ends.take_answer.Goals as goal

pub returns-in-Err-clause-kept : goal.returns-in-Err-clause-kept
returns-in-Err-clause-kept g c = λ w i k product.
    kept_again g.H.Honest.honest _ _ _ _ _ c.end_failed.ensures.kept.products (ap (λ (r : ReadyModel). r.cells) c.end_failed.ensures.kept.ready)
    (failed_now g.H.Honest.honest c.args.state.now c.args.job c.args.attempt c.requires.fixed_state (there_is c.args.state.now.jobs.items c.args.job c.args.attempt c.requires.current) w c.outcome_of.result i k
    (ap is_failure c.outcome_of.ensures ∙ outcome_fails c.in-Err.fault))

pub end_failed-requires-in-Err-take_product : goal.end_failed-requires-in-Err-take_product
end_failed-requires-in-Err-take_product g c =
    let f = c.requires.fixed_state in
    still_current f.w c.args.state.now c.take_product.new.state c.args.job c.args.attempt f.stands (c.in-Err-take_product.ensures.err f.w f.stands) c.requires.current

pub returns-in-Err-take_product-clause-kept : goal.returns-in-Err-take_product-clause-kept
returns-in-Err-take_product-clause-kept g c = λ w i k product.
    let failed = c.end_failed-in-Err-take_product.ensures.kept in
    let same = c.in-Err-take_product.ensures.err_kept in
    kept_again g.H.Honest.honest _ _ _ _ _ (failed.products ∙ same.products) (ap (λ (r : ReadyModel). r.cells) (failed.ready ∙ same.ready))
    (failed_now g.H.Honest.honest c.args.state.now c.args.job c.args.attempt c.requires.fixed_state (there_is c.args.state.now.jobs.items c.args.job c.args.attempt c.requires.current) w c.in-Err-take_product.outcome i k
    c.in-Err-take_product.ensures.failure)

pub returns-in-Err-take_product-clause-outcome : goal.returns-in-Err-take_product-clause-outcome
returns-in-Err-take_product-clause-outcome g c = λ snapshot.
    subst (λ (answer : Answer). IsOutcomeOf (task_kept snapshot (kept_of (products_of c.args.state.now) c.args.job)) answer c.in-Err-take_product.outcome) (sym c.in-Ok.is) (c.in-Err-take_product.ensures.why snapshot)
