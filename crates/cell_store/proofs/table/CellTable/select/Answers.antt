use Rattle.std.proofs.Common.{◌≡◌, ◌<◌, ◌∙◌, ap, length, map, subst, sym}
use Rattle.std.specs.Prelude.{All}
use Rattle.std.proofs.lemmas.List.Elements.{All-filter}
use Rattle.agg_group.specs.Mask.{count_of}
use Rattle.cell_store.specs.Selects.{passes, row_at}
use Rattle.cell_store.proofs.ColumnLemmas.{Row}
use Rattle.cell_store.proofs.SelectLemmas.{filter-range_within, rows_at_places}
use Rattle.cell_store.proofs.table.CellTable.select.Goals as goal

pub invariant_of-result : goal.invariant_of-result
invariant_of-result g c =
    let rows = c.args.self.now.rows in
    subst (All (λ place. place < length rows)) (sym c.in_ok-places.ensures) (filter-range_within (λ place. passes c.args.tests.now (row_at rows place).0) (length rows))

pub returns-clause-rows : goal.returns-clause-rows
returns-clause-rows g c =
    let rows = c.args.self.now.rows in
    ap (map (row_at rows)) c.in_ok-places.ensures ∙ rows_at_places (λ (row : Row). passes c.args.tests.now row.0) rows

pub returns-clause-widths : goal.returns-clause-widths
returns-clause-widths g c =
    let t = c.args.self.now in
    let p = λ (row : Row). passes c.args.tests.now row.0 in
    let P = λ (row : Row). length row.0 ≡ count_of t.mask in
    subst (All P) (sym (ap (map (row_at t.rows)) c.in_ok-places.ensures ∙ rows_at_places p t.rows)) (All-filter p P t.rows c.len.ensures.table.widths)
