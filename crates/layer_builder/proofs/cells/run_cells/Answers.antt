use Rattle.std.proofs.Common.{◌≡◌, ◌<◌, ◌+◌, ◌++◌, ◌∷◌, ◌∙◌, [], List, ap, append_assoc, arith, drop, length, map, sym}
use Rattle.std.proofs.lemmas.List.{append-nil, drop_all}
use Rattle.cell_gather.specs.Gathers.{cells_of}
use Rattle.cell_store.specs.declared.cell.Cell.{Cell}
use Rattle.layer_builder.specs.Base.{measures_from}
use Rattle.layer_builder.proofs.BaseFacts.{has_place, one_more_cell, one_more_place}
use Rattle.layer_builder.proofs.cells.run_cells.Goals as goal

pub run_cell-requires-clause-place : goal.run_cell-requires-clause-place
run_cell-requires-clause-place c kind = has_place c.args.aggs.now c.loop-agg.agg-index c.loop-agg.next (length c.args.dicts.now) c.loop-agg-test.true kind c.loop-agg.invariant.places

pub next_after-next-requires : goal.next_after-next-requires
next_after-next-requires c kind =
    let place = has_place c.args.aggs.now c.loop-agg.agg-index c.loop-agg.next (length c.args.dicts.now) c.loop-agg-test.true kind c.loop-agg.invariant.places in
    omega (arith, place, c.requires.fits)

pub loop-agg-preserved : goal.loop-agg-preserved
loop-agg-preserved c =
    let aggs = c.args.aggs.now in
    let dicts = c.args.dicts.now in
    let i = c.loop-agg.agg-index in
    let rows = map (λ row. row.1) c.args.rows.now in
    let had = c.loop-agg.cells.items in
    let lt : i < length aggs = c.loop-agg-test.true in
    let cell : Cell = c.in_ok-run_cell.field-0 in
    let places = one_more_place aggs i c.loop-agg.next lt in
    let rest : List Cell = cells_of (measures_from dicts c.next_after-next.result (drop (i + 1) aggs)) rows in
    let next : cell ∷ rest ≡ cells_of (measures_from dicts c.loop-agg.next (drop i aggs)) rows
    = (λ j. c.in_ok-run_cell.ensures j ∷ cells_of (measures_from dicts (c.next_after-next.ensures j) (drop (i + 1) aggs)) rows) ∙ one_more_cell dicts aggs i c.loop-agg.next rows lt in
    record {
      cells = ap (λ l. l ++ rest) c.in_ok-push.ensures.items ∙ append_assoc had (cell ∷ []) rest ∙ ap (λ l. had ++ l) next ∙ c.loop-agg.invariant.cells;
      places = omega (arith, places, c.next_after-next.ensures, c.loop-agg.invariant.places);
    }

pub returns : goal.returns
returns c =
    let had = c.loop-agg.cells.items in
    let none = drop_all c.loop-agg.agg-index c.args.aggs.now (omega arith) in
    sym (append-nil had) ∙ ap (λ l. had ++ cells_of (measures_from c.args.dicts.now c.loop-agg.next l) (map (λ row. row.1) c.args.rows.now)) (sym none) ∙ c.loop-agg.invariant.cells
