use Rattle.std.proofs.Common.{◌≡◌, ◌+◌, ◌∷◌, ◌++◌, ◌∙◌, [], Bool, List, ap, arith, length, map, subst, sym, take, take_all}
use Rattle.std.specs.Prelude.{All, IfOk}
use Rattle.std.specs.List.{flat_map}
use Rattle.std.proofs.lemmas.List.{take_more}
use Rattle.std.proofs.lemmas.List.Elements.{All-append}
use Rattle.agg_group.specs.declared.mask.Mask.{Mask}
use Rattle.agg_group.specs.Mask.{count_of}
use Rattle.measure_laws.specs.declared.measure.MeasureForm.{MeasureForm}
use Rattle.cell_store.specs.Cells.{CellRows, IsCellTable, form_of, items_at}
use Rattle.cell_gather.specs.Gathers.{gathered}
use Rattle.cell_gather.specs.Keys.{kept_dims, kept_numbers}
use Rattle.cell_gather.proofs.TableFacts.{Row, by_part, gathered-parts, parts_gather, sum_mapped}
use Rattle.layer_builder.proofs.PieceFacts.{flat_map-mapped, flat_map-push}
use Rattle.layer_builder.proofs.base_cuboid.joined.Goals as goal

pub loop-table-preserved : goal.loop-table-preserved
loop-table-preserved g c =
    let dims = c.args.mask in
    let forms = c.args.forms.now in
    let tables = c.args.tables.now in
    let i = c.loop-table.table-index in
    let table : CellRows = c.table-item.result in
    let had : List Row = c.loop-table.rows.items in
    let by : Row → Row = by_part dims dims in
    let own : (table.mask ≡ dims) × (table.forms ≡ forms)
    = subst (λ (t : CellRows). (t.mask ≡ dims) × (t.forms ≡ forms)) (sym c.table-item.is) (c.requires.tables i table c.loop-table-test.true) in
    let kept : IsCellTable dims forms table.rows
    = subst (λ (m : Mask). IsCellTable m forms table.rows) own.0 (subst (λ (fs : List MeasureForm). IsCellTable table.mask fs table.rows) own.1 c.len.ensures.table) in
    let fit = parts_gather dims dims forms table.rows (λ d h. h) kept in
    let keeps : c.deref.result.now ≡ kept_dims dims dims = c.deref.ensures.value ∙ c.in_ok-keeps.ensures in
    let keyed : List Bool → Row → Row = λ ks row. (kept_numbers ks row.0, row.1) in
    let read : c.add_rows.new.rows.items ≡ had ++ map by table.rows = c.in_ok-add_rows.ensures.rows ∙ (λ j. c.in_ok-reserve.ensures.items j ++ map (keyed (keeps j)) table.rows) in
    let each : CellRows → List Row = λ t. map by t.rows in
    let more : take (i + 1) tables ≡ take i tables ++ table ∷ [] = take_more tables i table c.loop-table-test.true ∙ ap (λ (t : CellRows). take i tables ++ t ∷ []) (sym c.table-item.is) in
    record {
      rows = read ∙ ap (λ l. l ++ map by table.rows) c.loop-table.invariant.rows ∙ sym (ap (flat_map each) more ∙ flat_map-push each (take i tables) table);
      widths = subst (λ (l : List Row). All (λ row. length row.0 ≡ count_of dims) l) (sym read)
          (All-append (λ (row : Row). length row.0 ≡ count_of dims) had (map by table.rows) c.loop-table.invariant.widths fit.widths);
      forms_of = subst (λ (l : List Row). All (λ row. map form_of row.1 ≡ forms) l) (sym read)
          (All-append (λ (row : Row). map form_of row.1 ≡ forms) had (map by table.rows) c.loop-table.invariant.forms_of fit.forms_of);
    }

pub gather-requires : goal.gather-requires
gather-requires g c =
    let dims = c.args.mask in
    let tables = c.args.tables.now in
    let by : Row → Row = by_part dims dims in
    let each : CellRows → List Row = λ t. map by t.rows in
    let rows : List Row = flat_map (λ (t : CellRows). t.rows) tables in
    let all : c.loop-table.rows.items ≡ map by rows
    = c.loop-table.invariant.rows ∙ ap (flat_map each) (take_all c.loop-table.table-index tables (omega arith)) ∙ flat_map-mapped by (λ (t : CellRows). t.rows) tables in
    record {
      widths = c.loop-table.invariant.widths;
      forms = c.loop-table.invariant.forms_of;
      few = λ k lt. let same = sum_mapped (λ (row : Row). items_at k row.1) by rows in let fits = c.requires.few k lt in rw all (omega arith);
    }

pub returns-clause-rows : goal.returns-clause-rows
returns-clause-rows g c =
    let dims = c.args.mask in
    let tables = c.args.tables.now in
    let by : Row → Row = by_part dims dims in
    let each : CellRows → List Row = λ t. map by t.rows in
    let rows : List Row = flat_map (λ (t : CellRows). t.rows) tables in
    let all : c.loop-table.rows.items ≡ map by rows
    = c.loop-table.invariant.rows ∙ ap (flat_map each) (take_all c.loop-table.table-index tables (omega arith)) ∙ flat_map-mapped by (λ (t : CellRows). t.rows) tables in
    subst (λ (l : List Row). IfOk c.gather.result (λ t. t.rows ≡ l)) (ap (gathered c.args.forms.now (λ key. key)) all ∙ gathered-parts dims dims c.args.forms.now rows) c.gather.ensures.rows
