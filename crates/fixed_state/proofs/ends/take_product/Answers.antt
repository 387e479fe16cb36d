use Rattle.std.proofs.Common.{◌≡◌, ℕ, ◌-◌, ◌<◌, List, length, refl, sym, ap, ◌∙◌, subst}
use Rattle.std.specs.Prelude.{is_some}
use Rattle.std.proofs.lemmas.Option.{slice_get_read}
use Rattle.byte_frame.specs.Exact.{IsBytes}
use Rattle.fixed_cube.specs.Tasks.{is_product, product_in}
use Rattle.run_state.specs.Orders.{products_of}
use Rattle.run_state.proofs.Turns.{current_within}
use Rattle.fixed_state.specs.Ends.{kept_of}
use Rattle.fixed_state.specs.Tasks.{task_kept}
use Rattle.fixed_state.proofs.EndFacts.{few_now, kept_here, there_is}
use Rattle.fixed_state.proofs.ends.take_product.Goals as goal

pub read_next-requires : goal.read_next-requires
read_next-requires g c =
    let within = current_within c.args.state.now.jobs.items c.args.job c.args.attempt c.requires.current in
    let read = slice_get_read c.args.state.now.jobs.items _ (c.args.job - 1) c.index-entry.result.now refl within.1 c.index-entry.ensures in
    let kept : kept_of (products_of c.args.state.now) c.args.job ≡ c.deref.result.now = kept_here c.args.state.now c.args.job c.index-entry.result.now read ∙ sym c.deref.ensures.value in
    subst (λ (xs : List (List ℕ)). length xs < 255) kept (few_now g.H.Honest.honest c.args.state.now c.args.job c.args.attempt c.requires.fixed_state (there_is c.args.state.now.jobs.items c.args.job c.args.attempt c.requires.current))

pub returns-in-Err-Damaged-clause-why : goal.returns-in-Err-Damaged-clause-why
returns-in-Err-Damaged-clause-why g c = λ snapshot.
    let within = current_within c.args.state.now.jobs.items c.args.job c.args.attempt c.requires.current in
    let read = slice_get_read c.args.state.now.jobs.items _ (c.args.job - 1) c.index-entry.result.now refl within.1 c.index-entry.ensures in
    let kept : kept_of (products_of c.args.state.now) c.args.job ≡ c.deref.result.now = kept_here c.args.state.now c.args.job c.index-entry.result.now read ∙ sym c.deref.ensures.value in
    let none = rw c.in-Err-Damaged.field-0-is at c.in-Err-Damaged.ensures.product snapshot in
    ap (λ (xs : List (List ℕ)). is_product (task_kept snapshot xs) c.args.bytes.items) kept ∙ (ap (is_product (task_kept snapshot c.deref.result.now)) (sym c.deref-2.ensures.value) ∙ ap is_some none)

pub keep-requires-clause-product : goal.keep-requires-clause-product
keep-requires-clause-product g c = λ snapshot.
    let within = current_within c.args.state.now.jobs.items c.args.job c.args.attempt c.requires.current in
    let read = slice_get_read c.args.state.now.jobs.items _ (c.args.job - 1) c.index-entry.result.now refl within.1 c.index-entry.ensures in
    let kept : kept_of (products_of c.args.state.now) c.args.job ≡ c.deref.result.now = kept_here c.args.state.now c.args.job c.index-entry.result.now read ∙ sym c.deref.ensures.value in
    ap (λ (xs : List (List ℕ)). product_in (task_kept snapshot xs) c.args.bytes.items) kept ∙ (ap (product_in (task_kept snapshot c.deref.result.now)) (sym c.deref-2.ensures.value) ∙ c.in-Ok.ensures.product snapshot)

pub returns-in-Ok-keep-clause-ok : goal.returns-in-Ok-keep-clause-ok
returns-in-Ok-keep-clause-ok g c = λ snapshot.
    let within = current_within c.args.state.now.jobs.items c.args.job c.args.attempt c.requires.current in
    let read = slice_get_read c.args.state.now.jobs.items _ (c.args.job - 1) c.index-entry.result.now refl within.1 c.index-entry.ensures in
    let kept : kept_of (products_of c.args.state.now) c.args.job ≡ c.deref.result.now = kept_here c.args.state.now c.args.job c.index-entry.result.now read ∙ sym c.deref.ensures.value in
    ap (λ (xs : List (List ℕ)). is_product (task_kept snapshot xs) c.args.bytes.items) kept ∙ (ap (is_product (task_kept snapshot c.deref.result.now)) (sym c.deref-2.ensures.value) ∙ ap is_some (c.in-Ok.ensures.product snapshot))

pub keep-requires-clause-bytes : goal.keep-requires-clause-bytes
keep-requires-clause-bytes g c = subst IsBytes c.deref-2.ensures.value c.in-Ok.ensures.bytes
