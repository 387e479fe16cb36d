use Rattle.std.proofs.Common.{◌≤◌, ◌+◌, arith, get_or, sym}
use Rattle.measure_laws.specs.Measures.{most_items}
use Rattle.cell_store.specs.Cells.{items_of}
use Rattle.cell_gather.proofs.LoopFacts.{items_at-get, merging_item, merging_set}
use Rattle.cell_gather.proofs.merge.merge_cells.Goals as goal

pub merge-requires : goal.merge-requires
merge-requires c =
    let A = c.args.cells.now in
    let B = c.args.others.now in
    let k = c.loop-k.k in
    let here = merging_item A B c.loop-k.cells k (omega arith) c.requires.width c.loop-k.invariant c.index-cells-k.result in
    let first = items_at-get A k c.index-cells-k.result (omega arith) in
    let second = items_at-get B k c.index-others-k.result (omega arith) in
    let few = c.requires.few k (omega arith) in
    let sum : items_of (get_or A k c.index-cells-k.result) + items_of (get_or B k c.index-others-k.result) ≤ most_items = rw (sym first, sym second) few in
    rw (here, c.index-others-k.is) sum

pub loop-k-preserved : goal.loop-k-preserved
loop-k-preserved c =
    merging_set c.args.cells.now c.args.others.now c.loop-k.cells c.loop-k.k (omega arith) c.requires.width c.loop-k.invariant c.index-cells-k.result c.merge.new.self c.index-others-k.result c.index-others-k.is
    c.in_ok-merge.ensures.ok
