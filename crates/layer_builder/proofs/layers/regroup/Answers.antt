use Rattle.std.proofs.Common.{◌≡◌, ◌++◌, ◌∙◌, Bool, List, ap, map}
use Rattle.cell_gather.specs.Keys.{kept_dims, kept_numbers}
use Rattle.cell_gather.proofs.TableFacts.{Row, by_part, parts_gather}
use Rattle.layer_builder.proofs.LayerFacts.{regrouped}
use Rattle.layer_builder.proofs.layers.regroup.Goals as goal

pub gather-requires : goal.gather-requires
gather-requires g c =
    let parent = c.args.parent.now in
    let keeps : c.deref.result.now ≡ kept_dims parent.mask c.args.mask = c.deref.ensures.value ∙ c.in_ok-keeps.ensures ∙ ap (λ m. kept_dims m c.args.mask) c.mask.ensures in
    let by : List Bool → Row → Row = λ ks row. (kept_numbers ks row.0, row.1) in
    let same : c.add_rows.new.rows.items ≡ map (by_part parent.mask c.args.mask) parent.rows
    = c.in_ok-add_rows.ensures.rows ∙ (λ i. c.in_ok-rows.ensures.items i ++ map (by (keeps i)) parent.rows) in
    let fit = parts_gather parent.mask c.args.mask parent.forms parent.rows c.requires c.len.ensures.table in
    rw (same, c.forms.ensures) (record { widths = fit.widths; forms = fit.forms_of; few = fit.few })

pub returns-clause-table : goal.returns-clause-table
returns-clause-table g c =
    let parent = c.args.parent.now in
    let keeps : c.deref.result.now ≡ kept_dims parent.mask c.args.mask = c.deref.ensures.value ∙ c.in_ok-keeps.ensures ∙ ap (λ m. kept_dims m c.args.mask) c.mask.ensures in
    let by : List Bool → Row → Row = λ ks row. (kept_numbers ks row.0, row.1) in
    let same : c.add_rows.new.rows.items ≡ map (by_part parent.mask c.args.mask) parent.rows
    = c.in_ok-add_rows.ensures.rows ∙ (λ i. c.in_ok-rows.ensures.items i ++ map (by (keeps i)) parent.rows) in
    regrouped parent c.args.mask c.add_rows.new.rows.items same c.gather.result c.gather.ensures.mask (rw c.forms.ensures at c.gather.ensures.forms) (rw c.forms.ensures at c.gather.ensures.rows)
