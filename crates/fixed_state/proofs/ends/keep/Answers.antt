use Rattle.std.proofs.Common.{ℕ, ◌-◌, ◌++◌, ◌∷◌, Some, Ok, List, [], set, refl, sym, ap, ◌∙◌}
use Rattle.job_machine.specs.declared.state.Ended.{Ended}
use Rattle.std.specs.Prelude.{is_some}
use Rattle.run_state.specs.Orders.{is_last_at, products_of}
use Rattle.run_state.specs.States.{entry_at}
use Rattle.fixed_state.specs.Ends.{kept_of, products_after}
use Rattle.fixed_state.specs.Ready.{ReadyModel}
use Rattle.fixed_state.specs.States.{FixedEntry, cells_of}
use Rattle.fixed_state.proofs.EndFacts.{advanced_now, ended_advanced, finished_now, kept_again, last_now, more_now, no_rows_now, on_ok, on_ok_both, queued_now, there_is, there_now}
use Rattle.fixed_state.proofs.ends.keep.Goals as goal

pub end_advanced-requires-clause-queued : goal.end_advanced-requires-clause-queued
end_advanced-requires-clause-queued g c = queued_now g.H.Honest.honest c.args.state.now c.args.job c.args.attempt c.requires.fixed_state (there_is c.args.state.now.jobs.items c.args.job c.args.attempt c.requires.current)

pub end_advanced-requires-clause-more : goal.end_advanced-requires-clause-more
end_advanced-requires-clause-more g c = sym (c.is_last_step.ensures ∙ ap (λ (jobs : List FixedEntry). is_last_at (entry_at jobs c.args.job)) c.deref.ensures.value) ∙ c.if-not-is_last_step.true

pub returns-then-not-is_last_step-clause-kept : goal.returns-then-not-is_last_step-clause-kept
returns-then-not-is_last_step-clause-kept g c =
    let t = there_is c.args.state.now.jobs.items c.args.job c.args.attempt c.requires.current in
    let more = sym (c.is_last_step.ensures ∙ ap (λ (jobs : List FixedEntry). is_last_at (entry_at jobs c.args.job)) c.deref.ensures.value) ∙ c.if-not-is_last_step.true in
    on_ok c.end_advanced.result (λ products w i k product.
    kept_again g.H.Honest.honest _ _ _ _ _ (products ∙ ap (λ (bytes : List ℕ). set (products_of c.args.state.now) (c.args.job - 1) (kept_of (products_of c.args.state.now) c.args.job ++ bytes ∷ [])) c.of.ensures) (ap (λ (r : ReadyModel). r.cells) c.end_advanced.ensures.ready)
    (advanced_now g.H.Honest.honest c.args.state.now c.args.job c.args.attempt c.requires.fixed_state t w c.args.bytes i k product
    (more_now g.H.Honest.honest c.args.state.now c.args.job c.args.attempt c.requires.fixed_state t more) c.requires.bytes (λ snapshot. ap is_some (c.requires.product snapshot)))) c.end_advanced.ensures.products

pub returns-then-not-is_last_step-clause-products : goal.returns-then-not-is_last_step-clause-products
returns-then-not-is_last_step-clause-products g c =
    let t = there_is c.args.state.now.jobs.items c.args.job c.args.attempt c.requires.current in
    let more = sym (c.is_last_step.ensures ∙ ap (λ (jobs : List FixedEntry). is_last_at (entry_at jobs c.args.job)) c.deref.ensures.value) ∙ c.if-not-is_last_step.true in
    on_ok c.end_advanced.result (λ products.
    products
    ∙ (ap (λ (bytes : List ℕ). set (products_of c.args.state.now) (c.args.job - 1) (kept_of (products_of c.args.state.now) c.args.job ++ bytes ∷ [])) c.of.ensures
    ∙ sym (ap (λ (e : Ended). products_after e c.args.job (Ok c.args.bytes) (products_of c.args.state.now))
    (ended_advanced g.H.Honest.honest c.args.state.now c.args.job c.args.attempt c.requires.fixed_state t
    (more_now g.H.Honest.honest c.args.state.now c.args.job c.args.attempt c.requires.fixed_state t more))))) c.end_advanced.ensures.products

pub keep_cells-requires-clause-last : goal.keep_cells-requires-clause-last
keep_cells-requires-clause-last g c = sym (c.is_last_step.ensures ∙ ap (λ (jobs : List FixedEntry). is_last_at (entry_at jobs c.args.job)) c.deref.ensures.value) ∙ c.if-not-is_last_step.false

pub unreachable-requires : goal.unreachable-requires
unreachable-requires g c =
    let t = there_is c.args.state.now.jobs.items c.args.job c.args.attempt c.requires.current in
    let last = sym (c.is_last_step.ensures ∙ ap (λ (jobs : List FixedEntry). is_last_at (entry_at jobs c.args.job)) c.deref.ensures.value) ∙ c.if-not-is_last_step.false in
    no_rows_now g.H.Honest.honest c.args.state.now c.args.job c.args.attempt c.requires.fixed_state t c.args.bytes.items c.in-Rows.field-0
    (last_now g.H.Honest.honest c.args.state.now c.args.job c.args.attempt c.requires.fixed_state t last) (λ snapshot. c.requires.product snapshot ∙ ap Some c.in-Rows.is)

pub returns-clause-kept : goal.returns-clause-kept
returns-clause-kept g c =
    let t = there_is c.args.state.now.jobs.items c.args.job c.args.attempt c.requires.current in
    let last = sym (c.is_last_step.ensures ∙ ap (λ (jobs : List FixedEntry). is_last_at (entry_at jobs c.args.job)) c.deref.ensures.value) ∙ c.if-not-is_last_step.false in
    on_ok_both c.keep_cells.result (λ products placed w i k product.
    kept_again g.H.Honest.honest _ _ _ _ _ products refl
    (finished_now g.H.Honest.honest c.args.state.now c.args.job c.args.attempt c.requires.fixed_state t w c.args.bytes c.in-Cells.cells (cells_of c.keep_cells.new.state) i k product
    (last_now g.H.Honest.honest c.args.state.now c.args.job c.args.attempt c.requires.fixed_state t last) (λ snapshot. c.requires.product snapshot ∙ ap Some c.in-Cells.is)
    (placed w i _ (there_now g.H.Honest.honest c.args.state.now c.args.job c.args.attempt c.requires.fixed_state t w i)))) c.keep_cells.ensures.products c.keep_cells.ensures.cells
