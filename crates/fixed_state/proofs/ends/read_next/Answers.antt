use Rattle.std.proofs.Common.{◌≡◌, ℕ, ◌-◌, ◌<◌, Option, Some, None, List, length, refl, sym, ap, ◌∙◌, subst, arith}
use Rattle.std.specs.Prelude.{MatchResult}
use Rattle.std.proofs.lemmas.Option.{slice_get_read}
use Rattle.fixed_cube.specs.Cube.{task_after}
use Rattle.fixed_cube.specs.Products.{IfDamaged}
use Rattle.fixed_cube.specs.Tasks.{product_in}
use Rattle.fixed_cube.specs.declared.products.FixedProduct.{FixedProduct}
use Rattle.fixed_state.specs.Tasks.{task_kept}
use Rattle.fixed_state.proofs.TaskFacts.{first_products, task_next}
use Rattle.fixed_state.proofs.ends.read_next.Goals as goal

pub returns-then-done-eq0-clause-product : goal.returns-then-done-eq0-clause-product
returns-then-done-eq0-clause-product c = λ snapshot.
    subst (λ (o : Option FixedProduct). MatchResult c.read_product.result (λ product. o ≡ Some product) (λ fault. IfDamaged fault (o ≡ None)))
    (first_products snapshot c.args.kept.now c.args.bytes.now c.if-done-eq0.true) c.read_product.ensures

pub returns-in-Ok-clause-product : goal.returns-in-Ok-clause-product
returns-in-Ok-clause-product c = λ snapshot.
    let some : 0 < length c.args.kept.now = omega arith in
    let read = slice_get_read c.args.kept.now _ (length c.args.kept.now - 1) c.index-kept-done.result refl (omega arith) c.index-kept-done.is in
    let told : c.deref.result.now ≡ task_kept snapshot c.args.kept.now =
    c.deref.ensures.value ∙ (c.in-Ok.ensures ∙ (ap (task_after (length c.args.kept.now)) c.bytes.ensures ∙ sym (task_next snapshot c.args.kept.now c.index-kept-done.result read))) in
    subst (λ (task : List ℕ). MatchResult c.read_product-in-Ok.result (λ product. product_in task c.args.bytes.now ≡ Some product) (λ fault. IfDamaged fault (product_in task c.args.bytes.now ≡ None))) told c.read_product-in-Ok.ensures

pub returns-then-done-eq0-clause-bytes : goal.returns-then-done-eq0-clause-bytes
returns-then-done-eq0-clause-bytes c = λ i. omega (arith, c.type_inv.bytes i)

pub returns-in-Ok-clause-bytes : goal.returns-in-Ok-clause-bytes
returns-in-Ok-clause-bytes c = λ i. omega (arith, c.type_inv.bytes i)

pub returns-in-Err-clause-bytes : goal.returns-in-Err-clause-bytes
returns-in-Err-clause-bytes c = λ i. omega (arith, c.type_inv.bytes i)
