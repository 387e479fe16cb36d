use Rattle.step_files.specs.declared.product.Product.{Product}
use Rattle.step_files.proofs.ProductReads.{base_answer, layer_answer}
use Rattle.step_files.proofs.checking.read_front.Goals as goal

pub returns-in-Base : goal.returns-in-Base
returns-in-Base c =
    base_answer (λ (p : Product). (p, c.read_base_product.new.r)) c.read_base_product.result c.args.task.now c.as_slice-in-Base.result.now c.in-Base.desc c.args.r.now c.as_slice-in-Base.ensures
    c.in-Base.flat c.in-Base.dicts c.in-Base.is c.read_base_product.ensures

pub returns-in-Layer : goal.returns-in-Layer
returns-in-Layer c =
    layer_answer (λ (p : Product). (p, c.read_cells_product.new.r)) c.read_cells_product.result c.args.task.now c.as_slice-in-Layer.result.now c.in-Layer.desc c.args.r.now c.as_slice-in-Layer.ensures
    c.in-Layer.dims c.as_slice-in-Layer-2.result.now c.in-Layer.sizes c.in-Layer.parents c.in-Layer.is c.as_slice-in-Layer-2.ensures c.read_cells_product.ensures
