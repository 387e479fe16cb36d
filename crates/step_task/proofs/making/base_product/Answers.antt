use Rattle.std.proofs.Common.{◌∙◌, List, ℕ, ap}
use Rattle.cell_store.specs.Cells.{CellRows}
use Rattle.step_compute.specs.Values.{base_value}
use Rattle.step_files.specs.declared.product.Product.TheVariants as product
use Rattle.step_task.specs.Steps.{cube_in}
use Rattle.step_task.proofs.making.base_product.Goals as goal

pub returns-in-Ok-clause-product : goal.returns-in-Ok-clause-product
returns-in-Ok-clause-product g c =
    ap (λ (table : CellRows). product.Base table) (c.in-Ok.ensures.base ∙ ap (λ (desc : List ℕ). base_value (cube_in desc) c.args.flat c.args.dicts) c.as_slice.ensures)
