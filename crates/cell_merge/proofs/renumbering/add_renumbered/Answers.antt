use Rattle.std.proofs.Common.{◌≡◌, ◌+◌, ◌∷◌, ◌++◌, ◌∙◌, [], List, ℕ, ap, append_assoc, arith, get_or, map, subst, sym, take}
use Rattle.std.specs.Prelude.{All}
use Rattle.std.proofs.lemmas.List.{map_more}
use Rattle.std.proofs.lemmas.Option.{get_or_from_slice_get, slice_get_within}
use Rattle.cell_gather.specs.Keys.{dims_of}
use Rattle.cell_gather.proofs.TableFacts.{Row}
use Rattle.cell_store.specs.Selects.{row_at}
use Rattle.cell_merge.specs.Renumbered.{first_set, renumbered_cells, renumbered_key, renumbered_row}
use Rattle.cell_merge.proofs.RowFacts.{row_few}
use Rattle.cell_merge.proofs.renumbering.add_renumbered.Goals as goal

pub renumbered_row-requires-clause-few : goal.renumbered_row-requires-clause-few
renumbered_row-requires-clause-few g c =
    let t = c.args.table.now in
    let read : Row = (c.row-cells.new.key, c.row-cells.result.now) in
    row_few t.mask t.forms t.rows c.len-i-end.ensures.table c.loop-i.i read (slice_get_within t.rows c.loop-i.i read c.row-cells.ensures.row)
    (get_or_from_slice_get t.rows c.loop-i.i read read c.row-cells.ensures.row)

pub loop-i-preserved : goal.loop-i-preserved
loop-i-preserved g c =
    let t = c.args.table.now in
    let remaps = c.args.remaps.now in
    let i = c.loop-i.i in
    let had = c.args.rows.now.items in
    let f : Row → Row = renumbered_row remaps t.mask t.forms in
    let read : Row = (c.row-cells.new.key, c.row-cells.result.now) in
    let here : row_at t.rows i ≡ read = get_or_from_slice_get t.rows i read ([], []) c.row-cells.ensures.row in
    let dims : c.deref.result.now ≡ dims_of t.mask = c.deref.ensures.value ∙ c.in_ok-dims.ensures ∙ ap dims_of c.mask.ensures in
    let place : c.first_set-place.result ≡ first_set remaps t.forms = c.first_set-place.ensures.place ∙ ap (first_set remaps) c.forms.ensures in
    let made : c.in_ok-renumbered_row.field-0 ≡ f (row_at t.rows i)
    = c.in_ok-renumbered_row.ensures ∙ (λ j. (renumbered_key remaps (dims j) read.0, renumbered_cells remaps (place j) read.1)) ∙ ap f (sym here) in
    let more : map f (take (i + 1) t.rows) ≡ map f (take i t.rows) ++ f (row_at t.rows i) ∷ [] = map_more f t.rows i ([], []) (slice_get_within t.rows i read c.row-cells.ensures.row) in
    c.in_ok-push.ensures.items ∙ (λ j. c.loop-i.invariant j ++ made j ∷ []) ∙ append_assoc had (map f (take i t.rows)) (f (row_at t.rows i) ∷ []) ∙ ap (λ l. had ++ l) (sym more)
