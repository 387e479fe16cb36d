-- Rows under new numbers are rows to gather.
use Rattle.std.proofs.Common.{◌≡◌, ◌≤◌, ◌<◌, ◌+◌, ◌∙◌, ℕ, zero, suc, List, [], ◌∷◌, ◌++◌, get_or, map, length, refl, sym, ap, arith, subst}
use Rattle.std.specs.Prelude.{All, sum_by}
use Rattle.std.specs.List.{AllByRecursion, AllZip, flat_map}
use Rattle.std.proofs.lemmas.List.{length-map}
use Rattle.std.proofs.lemmas.List.Elements.{All-append, All-from_recursion, recursion_from_All}
use Rattle.std.proofs.lemmas.List.Sums.{get_or-le-sum_by, sum_by-append}
use Rattle.agg_group.specs.declared.mask.Mask.{Mask}
use Rattle.agg_group.specs.Mask.{count_of}
use Rattle.cell_gather.specs.Gathers.{gathered}
use Rattle.cell_gather.specs.Keys.{dims_of}
use Rattle.cell_gather.proofs.LoopFacts.{items_at-get}
use Rattle.cell_gather.proofs.TableFacts.{Row, all_mapped, sum_mapped}
use Rattle.cell_store.specs.Cells.{CellRows, IsCellTable, ItemsAreFew, form_of, items_at, items_of}
use Rattle.cell_store.specs.declared.cell.Cell.{Cell}
use Rattle.cell_store.specs.declared.cell.Cell.TheVariants.{Count, Known, Sum, Min, Max, Distinct}
use Rattle.measure_laws.specs.Kinds.{dict_after}
use Rattle.measure_laws.specs.Measures.{most_items}
use Rattle.measure_laws.specs.declared.measure.MeasureForm.{MeasureForm}
use Rattle.cell_merge.specs.Merges.{AreFew, AreOfOneKind, IsMerge, renumbered_parts}
use Rattle.cell_merge.specs.Renumbered.{IsNumberedPart, first_set, remap_at, renumbered, renumbered_cell, renumbered_cells, renumbered_key, renumbered_row}

-- ---- the cells of a row

-- no cell of a table's row is of more items than a table may have
pub row_few : (mask : Mask) (forms : List MeasureForm) (rows : List Row) → IsCellTable mask forms rows → (i : ℕ) (row : Row) → i < length rows → get_or rows i row ≡ row
    → All (λ c. items_of c ≤ most_items) row.1
row_few mask forms rows table i row lt is k d lt_k =
    let has : map form_of row.1 ≡ forms = subst (λ (r : Row). map form_of r.1 ≡ forms) is (table.cells i row lt) in
    let wide : length row.1 ≡ length forms = sym (length-map row.1 form_of) ∙ ap length has in
    let one = get_or-le-sum_by (λ (r : Row). items_at k r.1) rows i row lt in
    let at : items_at k (get_or rows i row).1 ≡ items_of (get_or row.1 k d) = ap (λ (r : Row). items_at k r.1) is ∙ items_at-get row.1 k d lt_k in
    let few = table.few k (omega arith) in
    omega arith

same_form : (numbers : List ℕ) (c : Cell) → form_of (renumbered_cell numbers c) ≡ form_of c
same_form numbers (Count c) = refl
same_form numbers (Known c) = refl
same_form numbers (Sum c) = refl
same_form numbers (Min c) = refl
same_form numbers (Max c) = refl
same_form numbers (Distinct c) = refl

same_items : (numbers : List ℕ) (c : Cell) → items_of (renumbered_cell numbers c) ≡ items_of c
same_items numbers (Count c) = refl
same_items numbers (Known c) = refl
same_items numbers (Sum c) = refl
same_items numbers (Min c) = refl
same_items numbers (Max c) = refl
same_items numbers (Distinct c) = refl

same_forms : (remaps : List (List ℕ)) (place : ℕ) (cells : List Cell) → map form_of (renumbered_cells remaps place cells) ≡ map form_of cells
same_forms remaps place [] = refl
same_forms remaps place (c ∷ cells) = let here = same_form (remap_at remaps place) c in let rest = same_forms remaps (dict_after (form_of c) place) cells in λ i. here i ∷ rest i

items_kept : (remaps : List (List ℕ)) (place : ℕ) (cells : List Cell) (k : ℕ) → items_at k (renumbered_cells remaps place cells) ≡ items_at k cells
items_kept remaps place [] k = refl
items_kept remaps place (c ∷ cells) zero = same_items (remap_at remaps place) c
items_kept remaps place (c ∷ cells) (suc k) = items_kept remaps (dict_after (form_of c) place) cells k

length-key : (remaps : List (List ℕ)) (dims key : List ℕ) → AllZip (λ d id. id < length (remap_at remaps d)) dims key → length (renumbered_key remaps dims key) ≡ length key
length-key remaps [] [] h = refl
length-key remaps [] (id ∷ key) h = absurd h
length-key remaps (d ∷ dims) [] h = absurd h
length-key remaps (d ∷ dims) (id ∷ key) h = ap suc (length-key remaps dims key h.1)

-- ---- the rows of parts

-- a part's table, of these dimensions and forms
pub record IsTable (mask : Mask) (forms : List MeasureForm) (part : CellRows) : Type 0 where
  pub table : IsCellTable part.mask part.forms part.rows
  pub of_mask : part.mask ≡ mask
  pub of_forms : part.forms ≡ forms

module _ (mask : Mask) (forms : List MeasureForm) where
  abbrev pub IsWide : Row → Type 0
  IsWide row = length row.0 ≡ count_of mask

  abbrev pub HasForms : Row → Type 0
  HasForms row = map form_of row.1 ≡ forms

  part_wide : (remaps : List (List ℕ)) (part : CellRows) → IsTable mask forms part → IsNumberedPart remaps part → All IsWide (renumbered remaps part)
  part_wide remaps part is numbered =
      all_mapped IsWide (renumbered_row remaps part.mask part.forms) part.rows
      (λ k d lt. length-key remaps (dims_of part.mask) (get_or part.rows k d).0 (numbered k d lt).key ∙ is.table.widths k d lt ∙ ap count_of is.of_mask)

  part_forms : (remaps : List (List ℕ)) (part : CellRows) → IsTable mask forms part → All HasForms (renumbered remaps part)
  part_forms remaps part is =
      all_mapped HasForms (renumbered_row remaps part.mask part.forms) part.rows
      (λ k d lt. same_forms remaps (first_set remaps part.forms) (get_or part.rows k d).1 ∙ is.table.cells k d lt ∙ is.of_forms)

  pub parts_wide : (remaps : List (List (List ℕ))) (parts : List CellRows) → AllByRecursion (IsTable mask forms) parts → AllZip IsNumberedPart remaps parts → All IsWide (renumbered_parts remaps parts)
  parts_wide [] parts all numbered = λ k d lt. absurd (omega arith)
  parts_wide (r ∷ remaps) [] all numbered = λ k d lt. absurd (omega arith)
  parts_wide (r ∷ remaps) (part ∷ parts) all numbered =
      All-append IsWide (renumbered r part) (renumbered_parts remaps parts) (part_wide r part all.0 numbered.0) (parts_wide remaps parts all.1 numbered.1)

  pub parts_forms : (remaps : List (List (List ℕ))) (parts : List CellRows) → AllByRecursion (IsTable mask forms) parts → All HasForms (renumbered_parts remaps parts)
  parts_forms [] parts all = λ k d lt. absurd (omega arith)
  parts_forms (r ∷ remaps) [] all = λ k d lt. absurd (omega arith)
  parts_forms (r ∷ remaps) (part ∷ parts) all =
      All-append HasForms (renumbered r part) (renumbered_parts remaps parts) (part_forms r part all.0) (parts_forms remaps parts all.1)

-- the items of the parts' rows, together, are as many as before
pub parts_items : (k : ℕ) (remaps : List (List (List ℕ))) (parts : List CellRows) → length remaps ≡ length parts
    → sum_by (λ (row : Row). items_at k row.1) (renumbered_parts remaps parts) ≡ sum_by (λ (row : Row). items_at k row.1) (flat_map (λ (p : CellRows). p.rows) parts)
parts_items k [] [] e = refl
parts_items k [] (part ∷ parts) e = absurd (omega arith)
parts_items k (r ∷ remaps) [] e = absurd (omega arith)
parts_items k (r ∷ remaps) (part ∷ parts) e =
    let items : Row → ℕ = λ row. items_at k row.1 in
    let here : sum_by items (renumbered r part) ≡ sum_by items part.rows
    = sum_mapped items (renumbered_row r part.mask part.forms) part.rows ∙ (λ i. sum_by (λ (row : Row). items_kept r (first_set r part.forms) row.1 k i) part.rows) in
    let rest = parts_items k remaps parts (omega arith) in
    sum_by-append items (renumbered r part) (renumbered_parts remaps parts) ∙ (λ i. here i + rest i) ∙ sym (sum_by-append items part.rows (flat_map (λ (p : CellRows). p.rows) parts))

-- ---- the tables of a merge

abbrev pub IsWhole : CellRows → Type 0
IsWhole part = IsCellTable part.mask part.forms part.rows

each_table : (mask : Mask) (forms : List MeasureForm) (parts : List CellRows) → AllByRecursion IsWhole parts → AllByRecursion (λ part. part.mask ≡ mask) parts → AllByRecursion (λ part. part.forms ≡ forms) parts
    → AllByRecursion (IsTable mask forms) parts
each_table mask forms [] whole masks all = tt
each_table mask forms (part ∷ parts) whole masks all = (record { table = whole.0; of_mask = masks.0; of_forms = all.0 }, each_table mask forms parts whole.1 masks.1 all.1)

-- all are of the first one's dimensions and forms
pub are_tables : (parts : List CellRows) (first : CellRows) → 0 < length parts → get_or parts 0 first ≡ first → AreOfOneKind parts → All IsWhole parts → AllByRecursion (IsTable first.mask first.forms) parts
are_tables [] first some is kind whole = absurd (omega arith)
are_tables (part ∷ parts) first some is kind whole =
    let all = recursion_from_All IsWhole (part ∷ parts) whole in
    let masks = recursion_from_All (λ (p : CellRows). p.mask ≡ part.mask) parts kind.masks in
    let forms = recursion_from_All (λ (p : CellRows). p.forms ≡ part.forms) parts kind.forms in
    subst (λ (f : CellRows). AllByRecursion (IsTable f.mask f.forms) (part ∷ parts)) is
    (record { table = all.0; of_mask = refl; of_forms = refl }, each_table part.mask part.forms parts all.1 masks forms)

pub are_few : (parts : List CellRows) (first : CellRows) → 0 < length parts → get_or parts 0 first ≡ first → AreFew parts → ItemsAreFew first.forms (flat_map (λ (p : CellRows). p.rows) parts)
are_few [] first some is few = absurd (omega arith)
are_few (part ∷ parts) first some is few = subst (λ (f : CellRows). ItemsAreFew f.forms (flat_map (λ (p : CellRows). p.rows) (part ∷ parts))) is few

masks_of : (mask : Mask) (forms : List MeasureForm) (parts : List CellRows) → AllByRecursion (IsTable mask forms) parts → AllByRecursion (λ (p : CellRows). p.mask ≡ mask) parts
masks_of mask forms [] all = tt
masks_of mask forms (part ∷ parts) all = (all.0.of_mask, masks_of mask forms parts all.1)

forms_in : (mask : Mask) (forms : List MeasureForm) (parts : List CellRows) → AllByRecursion (IsTable mask forms) parts → AllByRecursion (λ (p : CellRows). p.forms ≡ forms) parts
forms_in mask forms [] all = tt
forms_in mask forms (part ∷ parts) all = (all.0.of_forms, forms_in mask forms parts all.1)

-- a table of those dimensions and forms, whose rows are the gathered ones, is the merge
pub is_merge : (remaps : List (List (List ℕ))) (parts : List CellRows) (first table : CellRows) → AllByRecursion (IsTable first.mask first.forms) parts
    → table.mask ≡ first.mask → table.forms ≡ first.forms → table.rows ≡ gathered first.forms (λ key. key) (renumbered_parts remaps parts) → IsMerge remaps parts table
is_merge remaps parts first table all mask forms rows = record {
  alike = record {
    masks = subst (λ (m : Mask). All (λ (p : CellRows). p.mask ≡ m) parts) (sym mask) (All-from_recursion (λ (p : CellRows). p.mask ≡ first.mask) parts (masks_of first.mask first.forms parts all));
    forms = subst (λ (f : List MeasureForm). All (λ (p : CellRows). p.forms ≡ f) parts) (sym forms) (All-from_recursion (λ (p : CellRows). p.forms ≡ first.forms) parts (forms_in first.mask first.forms parts all));
  };
  rows = rows ∙ ap (λ f. gathered f (λ key. key) (renumbered_parts remaps parts)) (sym forms);
}

-- ---- a part and its new numbers

pub same_length : (remaps : List (List (List ℕ))) (parts : List CellRows) → AllZip IsNumberedPart remaps parts → length remaps ≡ length parts
same_length [] [] h = refl
same_length [] (part ∷ parts) h = absurd h
same_length (r ∷ remaps) [] h = absurd h
same_length (r ∷ remaps) (part ∷ parts) h = ap suc (same_length remaps parts h.1)

pub numbered_at : (remaps : List (List (List ℕ))) (parts : List CellRows) (i : ℕ) (d : List (List ℕ)) (e : CellRows) → AllZip IsNumberedPart remaps parts → i < length parts
    → IsNumberedPart (get_or remaps i d) (get_or parts i e)
numbered_at [] [] i d e h lt = absurd (omega arith)
numbered_at [] (part ∷ parts) i d e h lt = absurd h
numbered_at (r ∷ remaps) [] i d e h lt = absurd h
numbered_at (r ∷ remaps) (part ∷ parts) zero d e h lt = h.0
numbered_at (r ∷ remaps) (part ∷ parts) (suc i) d e h lt = numbered_at remaps parts i d e h.1 (omega arith)
