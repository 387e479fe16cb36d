-- Rows of cells of valid tables, merged: each fits its field again.
use Rattle.std.proofs.Common.{◌+◌, ℕ, List, [], ◌∷◌, map}
use Rattle.byte_frame.specs.Spelling.{EachFits}
use Rattle.cell_gather.specs.Merges.{merged_cells}
use Rattle.cell_store.specs.Cells.{no_cell}
use Rattle.cell_store.specs.declared.cell.Cell.{Cell}
use Rattle.cube_fields.specs.Cells.{FitsCell}
use Rattle.cube_fields.specs.declared.forms.CellField.{CellField}
use Rattle.cube_fields.proofs.MergeFits.{HasForm, has_form, has_none, merge_forms}
use Rattle.measure_laws.specs.declared.measure.MeasureForm.{MeasureForm}

-- a cell of the field, of so many items, none included
abbrev pub HasCell : ℕ → CellField → Cell → Type 0
HasCell n field c = HasForm n field.size field.form c

abbrev pub form_in : CellField → MeasureForm
form_in field = field.form

-- cells of n items and of m, one by one
pub cells_merge : (n m : ℕ) (fs : List CellField) (xs ys : List Cell) → EachFits (FitsCell n) fs xs → EachFits (HasCell m) fs ys → EachFits (FitsCell (n + m)) fs (merged_cells xs ys)
cells_merge n m [] [] ys h k = tt
cells_merge n m [] (a ∷ xs) ys h k = absurd h
cells_merge n m (f ∷ fs) [] ys h k = absurd h
cells_merge n m (f ∷ fs) (a ∷ xs) [] h k = absurd k
cells_merge n m (f ∷ fs) (a ∷ xs) (b ∷ ys) h k = (merge_forms n m f.size f.form a b h.0 k.0, cells_merge n m fs xs ys h.1 k.1)

pub cells_have : (n : ℕ) (fs : List CellField) (cs : List Cell) → EachFits (FitsCell n) fs cs → EachFits (HasCell n) fs cs
cells_have n [] [] h = tt
cells_have n [] (c ∷ cs) h = absurd h
cells_have n (f ∷ fs) [] h = absurd h
cells_have n (f ∷ fs) (c ∷ cs) h = (has_form n f.size f.form c h.0, cells_have n fs cs h.1)

pub none_have : (fs : List CellField) → EachFits (HasCell 0) fs (map no_cell (map form_in fs))
none_have [] = tt
none_have (f ∷ fs) = (has_none f.size f.form, none_have fs)
