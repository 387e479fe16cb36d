use Rattle.std.proofs.Common.{◌≡◌, ◌∙◌, ap, subst, sym}
use Rattle.sha2.specs.Sha256.{sha256}
use Rattle.step_files.specs.Files.{digest_of, file_of}
use Rattle.step_files.specs.Products.{IsShortProduct}
use Rattle.step_files.proofs.ShortFacts.{product_short}
use Rattle.step_task.specs.Steps.{step_compute}
use Rattle.step_task.proofs.ProductFacts.{made_products}
use Rattle.step_task.proofs.TextFacts.{made_text}
use Rattle.step_task.proofs.work.run_step.Goals as goal

pub product_file-requires : goal.product_file-requires
product_file-requires g c =
    let fits = c.in-Ok.ensures.found.0 in
    subst IsShortProduct (sym c.in-Ok-product_of.ensures.product) (product_short c.in-Ok.found (step_compute c.in-Ok.found) fits (made_products c.in-Ok.found fits))

pub returns-in-Ok-product_file-clause-product : goal.returns-in-Ok-product_file-clause-product
returns-in-Ok-product_file-clause-product g c =
    let is = c.in-Ok.ensures.found in
    let digest : c.digest-digest.result ≡ digest_of c.in-Ok.found = c.digest-digest.ensures ∙ ap sha256 is.1 in
    c.in-Ok-product_file.ensures ∙ (λ i. file_of (digest i) (c.in-Ok-product_of.ensures.product i)) ∙ sym (made_text c.args.task.now c.in-Ok.found c.short.ensures is)
