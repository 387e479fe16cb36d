use Rattle.std.proofs.Common.{Err, Ok, ◌≡◌, ◌≤◌, ◌<◌, ◌∙◌, ℕ, List, ap, arith, length, refl, subst, sym}
use Rattle.std.specs.Prelude.{All, IfOk, Result, sum_by}
use Rattle.agg_group.specs.declared.mask.Mask.{Mask}
use Rattle.cell_gather.specs.Gathers.{gathered}
use Rattle.cell_gather.proofs.TableFacts.{Row}
use Rattle.cell_store.specs.Cells.{CellRows, items_at}
use Rattle.measure_laws.specs.Measures.{most_items}
use Rattle.measure_laws.specs.declared.measure.MeasureForm.{MeasureForm}
use Rattle.cell_merge.specs.Merges.{IsMerge, renumbered_parts}
use Rattle.cell_merge.proofs.RowFacts.{HasForms, IsWide, are_few, are_tables, is_merge, parts_forms, parts_items, parts_wide, same_length}
use Rattle.cell_merge.proofs.merging.merge_tables.Goals as goal

each_of_three : {X Y : Type 0} (r : Result X Y) (P Q R S : X → Type 0) → IfOk r P → IfOk r Q → IfOk r R → ((x : X) → P x → Q x → R x → S x) → IfOk r S
each_of_three (Ok x) P Q R S p q r f = f x p q r
each_of_three (Err y) P Q R S p q r f = tt

pub renumbered_parts-requires : goal.renumbered_parts-requires
renumbered_parts-requires c = record {
  blank = (refl, refl, omega (arith, c.new.ensures));
  numbers = c.requires.numbers;
}

pub gather-requires : goal.gather-requires
gather-requires c =
    let remaps : List (List (List ℕ)) = c.args.remaps.now in
    let parts : List CellRows = c.args.parts.now in
    let first : CellRows = c.index-parts-0.result in
    let rows : c.in_ok-keyed.keyed.items ≡ renumbered_parts remaps parts = c.in_ok-keyed.ensures ∙ c.deref.ensures.value ∙ c.in_ok-rows.ensures.rows in
    let all = are_tables parts first c.requires.some (sym c.index-parts-0.is) c.requires.alike c.in_ok-rows.ensures.tables in
    record {
      widths = subst (λ (l : List Row). All (IsWide c.mask.result first.forms) l) (sym rows)
          (subst (λ (m : Mask). All (IsWide m first.forms) (renumbered_parts remaps parts)) (sym c.mask.ensures) (parts_wide first.mask first.forms remaps parts all c.requires.numbers));
      forms = subst (λ (l : List Row). All (HasForms first.mask c.forms.result.now) l) (sym rows)
          (subst (λ (f : List MeasureForm). All (HasForms first.mask f) (renumbered_parts remaps parts)) (sym c.forms.ensures) (parts_forms first.mask first.forms remaps parts all));
      few = λ k lt.
          let few = are_few parts first c.requires.some (sym c.index-parts-0.is) c.requires.few k (subst (λ (f : List MeasureForm). k < length f) c.forms.ensures lt) in
          let same = parts_items k remaps parts (same_length remaps parts c.requires.numbers) in
          subst (λ (l : List Row). sum_by (λ (row : Row). items_at k row.1) l ≤ most_items) (sym rows) (subst (λ (n : ℕ). n ≤ most_items) (sym same) few);
    }

pub returns : goal.returns
returns c =
    let remaps : List (List (List ℕ)) = c.args.remaps.now in
    let parts : List CellRows = c.args.parts.now in
    let first : CellRows = c.index-parts-0.result in
    let rows : c.in_ok-keyed.keyed.items ≡ renumbered_parts remaps parts = c.in_ok-keyed.ensures ∙ c.deref.ensures.value ∙ c.in_ok-rows.ensures.rows in
    let all = are_tables parts first c.requires.some (sym c.index-parts-0.is) c.requires.alike c.in_ok-rows.ensures.tables in
    each_of_three c.gather.result (λ (t : CellRows). t.mask ≡ c.mask.result) (λ (t : CellRows). t.forms ≡ c.forms.result.now) (λ (t : CellRows). t.rows ≡ gathered c.forms.result.now (λ key. key) c.in_ok-keyed.keyed.items)
    (IsMerge remaps parts) c.gather.ensures.mask c.gather.ensures.forms c.gather.ensures.rows
    (λ t mask forms made. is_merge remaps parts first t all (mask ∙ c.mask.ensures) (forms ∙ c.forms.ensures) (made ∙ (λ j. gathered (c.forms.ensures j) (λ key. key) (rows j))))
