use Rattle.std.proofs.Common.{◌≡◌, ◌∙◌, ap}
use Rattle.std.proofs.lemmas.Result.{IfOk-weaker}
use Rattle.cell_store.specs.Cells.{CellRows}
use Rattle.cube_desc.specs.Cube.{Cube}
use Rattle.step_compute.specs.Values.{base_value}
use Rattle.step_task.specs.Steps.{cube_in}
use Rattle.step_task.proofs.making.base_table.Goals as goal

pub returns-clause-base : goal.returns-clause-base
returns-clause-base g c =
    let flat = c.args.flat.now in
    let dicts = c.args.dicts.now in
    let cube : Cube = cube_in c.args.desc.now in
    let same : c.in_ok-desc.desc.cube ≡ cube = c.in_ok-desc.ensures in
    IfOk-weaker c.base_value.result (λ (table : CellRows). table ≡ base_value c.in_ok-desc.desc.cube flat dicts) (λ (table : CellRows). table ≡ base_value cube flat dicts)
    (λ table h. h ∙ ap (λ (k : Cube). base_value k flat dicts) same) c.base_value.ensures.base
