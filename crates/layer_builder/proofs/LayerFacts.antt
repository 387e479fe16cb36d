-- A table that was gathered is regrouped from its parent.
use Rattle.std.proofs.Common.{◌≡◌, ◌∙◌, List, ap, map, Ok, Err}
use Rattle.std.specs.Prelude.{IfOk, Result}
use Rattle.agg_group.specs.declared.mask.Mask.{Mask}
use Rattle.cell_store.specs.Cells.{CellRows}
use Rattle.cell_gather.specs.Gathers.{gathered}
use Rattle.cell_gather.proofs.TableFacts.{Row, by_part, gathered-parts}
use Rattle.layer_builder.specs.Layers.{IsRegrouped}

pub regrouped : {E : Type 0} (parent : CellRows) (dims : Mask) (rows : List Row) → rows ≡ map (by_part parent.mask dims) parent.rows → (result : Result CellRows E)
    → IfOk result (λ t. t.mask ≡ dims) → IfOk result (λ t. t.forms ≡ parent.forms) → IfOk result (λ t. t.rows ≡ gathered parent.forms (λ key. key) rows) → IfOk result (IsRegrouped parent dims)
regrouped parent dims rows same (Ok t) mask forms gives = record {
  mask = mask;
  forms = forms;
  rows = gives ∙ ap (gathered parent.forms (λ key. key)) same ∙ gathered-parts parent.mask dims parent.forms parent.rows;
}
regrouped parent dims rows same (Err e) mask forms gives = tt
