use Rattle.std.proofs.Common.{◌≡◌, ◌≤◌, ◌+◌, ◌∙◌, List, ap, arith, get_or, length, map, sym}
use Rattle.std.proofs.lemmas.List.{get_or-map, length-map, map-set}
use Rattle.measure_laws.specs.Measures.{most_items}
use Rattle.cell_store.specs.Cells.{items_of, merged_cell}
use Rattle.cell_store.specs.declared.cell.Cell.{Cell}
use Rattle.cell_gather.specs.Merges.{merged_so_far}
use Rattle.cell_gather.proofs.LoopFacts.{items_at-get, merging_item, merging_set}
use Rattle.cell_gather.proofs.union.take_in_row.Goals as goal

pub take_in-requires : goal.take_in-requires
take_in-requires c =
    let A = map merged_so_far c.args.merges.now in
    let B = c.args.others.now in
    let L = map merged_so_far c.loop-k.merges in
    let k = c.loop-k.k in
    let d = merged_so_far c.index-merges-k.result in
    let size = length-map c.args.merges.now merged_so_far in
    let at = get_or-map merged_so_far c.loop-k.merges k c.index-merges-k.result d (omega arith) in
    let here = merging_item A B L k (omega arith) (size ∙ c.requires.width) c.loop-k.invariant d in
    let first = items_at-get A k d (omega arith) in
    let second = items_at-get B k c.index-others-k.result (omega arith) in
    let few = c.requires.few k c.loop-k-test.true in
    let sum : items_of (get_or A k d) + items_of (get_or B k c.index-others-k.result) ≤ most_items = rw (sym first, sym second) few in
    rw (sym at ∙ here, c.index-others-k.is) sum

pub loop-k-preserved : goal.loop-k-preserved
loop-k-preserved c =
    let A = map merged_so_far c.args.merges.now in
    let B = c.args.others.now in
    let L = map merged_so_far c.loop-k.merges in
    let k = c.loop-k.k in
    let d = merged_so_far c.index-merges-k.result in
    let size = length-map c.args.merges.now merged_so_far in
    let at = get_or-map merged_so_far c.loop-k.merges k c.index-merges-k.result d (omega arith) in
    map-set merged_so_far c.loop-k.merges k c.take_in.new.merge
    ∙ merging_set A B L k (omega arith) (size ∙ c.requires.width) c.loop-k.invariant d (merged_so_far c.take_in.new.merge) c.index-others-k.result c.index-others-k.is
    (c.in_ok-take_in.ensures ∙ ap (λ (x : Cell). merged_cell x c.index-others-k.result) (sym at))
