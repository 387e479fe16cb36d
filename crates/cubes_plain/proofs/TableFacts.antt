-- Facts about the rows of a table of `fold`.
use Rattle.std.proofs.Common.{◌≡◌, ◌≢◌, ℕ, List, [], ◌∷◌, true, refl, sym, length, get_or, arith}
use Rattle.std.specs.List.{All, AllByRecursion, AllZip}
use Rattle.std.proofs.lemmas.List.Elements.{All-from_recursion}
use Rattle.cube_val.specs.Values.{FitsType, Writes}
use Rattle.cube_val.specs.declared.val.ColType.TheVariants as ty
use Rattle.cube_val.specs.declared.val.Val.{Val}
use Rattle.cube_val.specs.declared.val.Val.TheVariants.{Null, Int, Text}
use Rattle.table_reader.specs.Columns.{columns_of}
use Rattle.table_reader.specs.Rows.{IsRowOf}
use Rattle.cubes_plain.specs.Rows.{IsFactRow, IsInt}
use Rattle.cubes_plain.specs.Tables.{IsFoldTable, fold_form}

-- a list of two items, read one by one
pub two_items : {X : Type 0} (xs : List X) (a b : X) → length xs ≡ 2 → a ≡ get_or xs 0 a → b ≡ get_or xs 1 b → xs ≡ a ∷ b ∷ []
two_items [] a b n p q = absurd (omega arith)
two_items (x ∷ []) a b n p q = absurd (omega arith)
two_items (x ∷ y ∷ []) a b n p q = λ i. sym p i ∷ sym q i ∷ []
two_items (x ∷ y ∷ z ∷ xs) a b n p q = absurd (omega arith)

fits_text : (field : List ℕ) (v : Val) → Writes ty.Text field v → FitsType ty.Text v
fits_text field Null h = tt
fits_text field (Int n) h = absurd h
fits_text field (Text t) h = tt

is_number : (field : List ℕ) (v : Val) → Writes ty.Int field v → (true ≡ true → v ≢ Null) → IsInt v
is_number field Null h k = absurd (k refl refl)
is_number field (Int n) h k = tt
is_number field (Text t) h k = absurd h

fact_row : (header fields : List (List ℕ)) (row : List Val) → IsRowOf (columns_of fold_form header) (length header) fields row → IsFactRow row
fact_row header fields [] h = absurd h.1
fact_row header fields (a ∷ []) h = absurd h.1.1
fact_row header fields (a ∷ b ∷ []) h = absurd h.1.1.1
fact_row header fields (a ∷ b ∷ v ∷ []) h = (refl, fits_text _ a h.1.0.0, fits_text _ b h.1.1.0.0, is_number _ v h.1.1.1.0.0 h.1.1.1.0.1)
fact_row header fields (a ∷ b ∷ v ∷ w ∷ row) h = absurd h.1.1.1.1

-- the rows of a table are two texts and a number
fact_rows : (header : List (List ℕ)) (records : List (List (List ℕ))) (rows : List (List Val)) → AllZip (IsRowOf (columns_of fold_form header) (length header)) records rows
    → AllByRecursion IsFactRow rows
fact_rows header [] [] h = tt
fact_rows header [] (r ∷ rows) h = absurd h
fact_rows header (x ∷ records) [] h = absurd h
fact_rows header (x ∷ records) (r ∷ rows) h = (fact_row header x r h.0, fact_rows header records rows h.1)

pub table_rows : (bytes : List ℕ) (rows : List (List Val)) → IsFoldTable bytes rows → All IsFactRow rows
table_rows bytes rows t = All-from_recursion IsFactRow rows (fact_rows t.header t.records rows t.rows_are.written)
