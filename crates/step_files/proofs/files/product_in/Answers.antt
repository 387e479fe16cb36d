use Rattle.std.proofs.Common.{Option, Some, None, subst, sym}
use Rattle.byte_frame.specs.Outcomes.{Gives}
use Rattle.step_files.specs.declared.product.Product.{Product}
use Rattle.step_files.proofs.FileReads.{product_with}
use Rattle.step_files.proofs.files.product_in.Goals as goal

pub returns-in-Some : goal.returns-in-Some
returns-in-Some c =
    subst (λ (o : Option Product). Gives (λ (p : Product). p) c.read_product_body.result o) (sym (product_with c.args.task.now c.args.digest.now c.args.bytes.now (Some c.in-Some.body.now) c.in-Some.ensures))
    c.read_product_body.ensures

pub returns-in-None : goal.returns-in-None
returns-in-None c = product_with c.args.task.now c.args.digest.now c.args.bytes.now None c.in-None.ensures
