use Rattle.step_files.proofs.ProductReads.{cells_fail, cells_given}
use Rattle.step_files.proofs.checking.read_cells_product.Goals as goal

pub returns-in-Ok : goal.returns-in-Ok
returns-in-Ok c =
    cells_given c.args.desc.now c.in_ok-layout.layout c.in_ok-layout.ensures.layout c.args.dims c.args.sizes.now c.args.r.now c.in-Ok.tables.items c.of.result c.read_layer_tables.new.r c.of.ensures
    c.in-Ok.ensures

pub returns : goal.returns
returns c = cells_fail c.args.desc.now c.in_ok-layout.layout c.in_ok-layout.ensures.layout c.args.dims c.args.sizes.now c.args.r.now c.in-Err.e c.in-Err.ensures
