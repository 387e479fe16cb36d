use Rattle.std.proofs.Common.{◌≡◌, ◌∙◌, ap, arith, length, sym, take, map}
use Rattle.std.proofs.lemmas.List.{length-map}
use Rattle.std.proofs.lemmas.List.Elements.{All-take}
use Rattle.cell_store.specs.Cells.{form_of}
use Rattle.measure_laws.specs.Measures.{most_items}
use Rattle.cell_gather.specs.Merges.{merged_cells, merged_so_far}
use Rattle.cell_gather.proofs.LoopFacts.{forms_of_merged, merged_more, merged_of, merging_room, written}
use Rattle.cell_gather.proofs.union.merged_at_once.Goals as goal

pub take_in_row-requires-clause-few : goal.take_in_row-requires-clause-few
take_in_row-requires-clause-few c =
    let forms = c.args.forms.now in
    let rows = c.args.rows.now in
    let i = c.loop-row.row-index in
    let row = c.row-item.result in
    let merges = c.deref_mut.result.now in
    let cells : c.row.inside.cells.now ≡ row.1 = ap (λ r. r.1) c.row.view_is in
    let same : map merged_so_far merges ≡ merged_of forms (take i rows) = ap (map merged_so_far) c.deref_mut.ensures.value ∙ c.loop-row.invariant in
    let done_forms = forms_of_merged forms (take i rows) (All-take (λ r. map form_of r.1 ≡ forms) i rows c.requires.forms) in
    let done_size : length (merged_of forms (take i rows)) ≡ length forms = sym (length-map (merged_of forms (take i rows)) form_of) ∙ ap length done_forms in
    let size : length merges ≡ length forms = sym (length-map merges merged_so_far) ∙ ap length same ∙ done_size in
    λ k lt. rw (same, cells) (merging_room forms rows i row k most_items (omega arith) c.row-item.is c.requires.forms (c.requires.few k (omega arith)))

pub loop-row-preserved : goal.loop-row-preserved
loop-row-preserved c =
    let forms = c.args.forms.now in
    let rows = c.args.rows.now in
    let i = c.loop-row.row-index in
    let row = c.row-item.result in
    let cells : c.row.inside.cells.now ≡ row.1 = ap (λ r. r.1) c.row.view_is in
    let same : map merged_so_far c.deref_mut.result.now ≡ merged_of forms (take i rows) = ap (map merged_so_far) c.deref_mut.ensures.value ∙ c.loop-row.invariant in
    let size : length c.take_in_row.new.merges ≡ length c.loop-row.merges.items = c.take_in_row.auto.merges ∙ ap length c.deref_mut.ensures.value in
    ap (map merged_so_far) (written c.take_in_row.new.merges c.loop-row.merges.items c.loop-row.merges.len (sym c.loop-row.merges.ok.0) size)
    ∙ c.in_ok-take_in_row.ensures ∙ (λ j. merged_cells (same j) (cells j)) ∙ sym (merged_more forms rows i row (omega arith) c.row-item.is c.requires.forms)
