use Rattle.std.proofs.Common.{◌≡◌, ◌∙◌, ap, arith, length, sym, take, take_all, map}
use Rattle.std.proofs.lemmas.List.{length-map}
use Rattle.std.proofs.lemmas.List.Elements.{All-take}
use Rattle.cell_store.specs.Cells.{form_of}
use Rattle.measure_laws.specs.Measures.{most_items}
use Rattle.cell_gather.specs.Merges.{merged_cells}
use Rattle.cell_gather.proofs.LoopFacts.{forms_of_merged, merged_more, merged_of, merging_room, written}
use Rattle.cell_gather.proofs.merge.merged_in_turn.Goals as goal

pub merge_cells-requires : goal.merge_cells-requires
merge_cells-requires c =
    let forms = c.args.forms.now in
    let rows = c.args.rows.now in
    let i = c.loop-row.row-index in
    let row = c.row-item.result in
    let cells : c.row.inside.cells.now ≡ row.1 = ap (λ r. r.1) c.row.view_is in
    let same : c.deref_mut.result.now ≡ merged_of forms (take i rows) = c.deref_mut.ensures.value ∙ c.loop-row.invariant in
    let done_forms = forms_of_merged forms (take i rows) (All-take (λ r. map form_of r.1 ≡ forms) i rows c.requires.forms) in
    let done_size : length (merged_of forms (take i rows)) ≡ length forms = sym (length-map (merged_of forms (take i rows)) form_of) ∙ ap length done_forms in
    let row_forms : map form_of row.1 ≡ forms = ap (λ r. map form_of r.1) c.row-item.is ∙ c.requires.forms i row (omega arith) in
    let row_size : length row.1 ≡ length forms = sym (length-map row.1 form_of) ∙ ap length row_forms in
    rw (same, cells) (record {
      width = done_size ∙ sym row_size;
      few = λ k lt. merging_room forms rows i row k most_items (omega arith) c.row-item.is c.requires.forms (c.requires.few k (omega arith));
    })

pub loop-row-preserved : goal.loop-row-preserved
loop-row-preserved c =
    let forms = c.args.forms.now in
    let rows = c.args.rows.now in
    let i = c.loop-row.row-index in
    let row = c.row-item.result in
    let cells : c.row.inside.cells.now ≡ row.1 = ap (λ r. r.1) c.row.view_is in
    let same : c.deref_mut.result.now ≡ merged_of forms (take i rows) = c.deref_mut.ensures.value ∙ c.loop-row.invariant in
    let size : length c.merge_cells.new.cells ≡ length c.loop-row.cells.items = c.merge_cells.auto.cells ∙ ap length c.deref_mut.ensures.value in
    written c.merge_cells.new.cells c.loop-row.cells.items c.loop-row.cells.len (sym c.loop-row.cells.ok.0) size
    ∙ c.in_ok-merge_cells.ensures ∙ (λ j. merged_cells (same j) (cells j)) ∙ sym (merged_more forms rows i row (omega arith) c.row-item.is c.requires.forms)

pub returns : goal.returns
returns c = c.loop-row.invariant ∙ ap (merged_of c.args.forms.now) (take_all c.loop-row.row-index c.args.rows.now (omega arith))
