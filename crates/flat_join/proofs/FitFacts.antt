-- The rows of a table that is read fit its form.
use Rattle.std.proofs.Common.{◌≡◌, ℕ, suc, List, [], ◌∷◌, Bool, length, refl, sym, ap, subst, ◌∙◌, arith}
use Rattle.std.specs.List.{AllByRecursion, AllZip, zip}
use Rattle.std.proofs.lemmas.List.Elements.{All-from_recursion}
use Rattle.calendar.specs.Dates.{IsDate}
use Rattle.cube_val.specs.Values.{FitsType, Writes}
use Rattle.cube_val.specs.declared.form.ColDesc.{ColDesc}
use Rattle.cube_val.specs.declared.form.TableForm.{TableForm}
use Rattle.cube_val.specs.declared.val.ColType.{ColType}
use Rattle.cube_val.specs.declared.val.ColType.TheVariants as ty
use Rattle.cube_val.specs.declared.val.Val.{Val}
use Rattle.cube_val.specs.declared.val.Val.TheVariants.{Null, Int, Text}
use Rattle.table_reader.specs.Columns.{column_in, columns_in, columns_of}
use Rattle.table_reader.specs.Rows.{IsRowOf, WritesCell, field_of}
use Rattle.table_reader.proofs.RowFacts.{zip_length}
use Rattle.flat_join.specs.Fits.{FitsColumn, FitsRow}
use Rattle.flat_join.specs.Laws.{ReadTablesFit}

-- a value that is written in a column of a type is of the type
fits_type : (t : ColType) (field : List ℕ) (v : Val) → Writes t field v → FitsType t v
fits_type t field Null h = tt
fits_type ty.Int field (Int n) h = tt
fits_type ty.Decimal field (Int n) h = tt
fits_type ty.Text field (Int n) h = absurd h
fits_type ty.Date field (Int n) h = absurd h
fits_type ty.Int field (Text t) h = absurd h
fits_type ty.Decimal field (Text t) h = absurd h
fits_type ty.Text field (Text t) h = tt
fits_type ty.Date field (Text t) h = subst (λ (x : List ℕ). IsDate x) (sym h.1) h.0

row_fits : (header fields : List (List ℕ)) (cols : List ColDesc) (no_nulls : List Bool) (row : List Val)
    → AllZip (λ column v. WritesCell column (field_of fields column) v) (columns_in header cols no_nulls) row → AllZip FitsColumn (zip cols no_nulls) row
row_fits header fields [] no_nulls [] h = tt
row_fits header fields [] no_nulls (v ∷ row) h = absurd h
row_fits header fields (c ∷ cols) [] [] h = tt
row_fits header fields (c ∷ cols) [] (v ∷ row) h = absurd h
row_fits header fields (c ∷ cols) (n ∷ no_nulls) [] h = absurd h
row_fits header fields (c ∷ cols) (n ∷ no_nulls) (v ∷ row) h =
    ((fits_type c.ty (field_of fields (column_in header c n)) v h.0.0, h.0.1), row_fits header fields cols no_nulls row h.1)

rows_fit : (form : TableForm) (header : List (List ℕ)) (records : List (List (List ℕ))) (rows : List (List Val))
    → AllZip (IsRowOf (columns_of form header) (length header)) records rows → AllByRecursion (FitsRow form) rows
rows_fit form header [] [] h = tt
rows_fit form header [] (r ∷ rows) h = absurd h
rows_fit form header (x ∷ records) [] h = absurd h
rows_fit form header (x ∷ records) (r ∷ rows) h = (row_fits header x form.cols form.no_null r h.0.1, rows_fit form header records rows h.1)

pub read_tables_fit : ReadTablesFit
read_tables_fit form bytes rows same t = record {
  fit = All-from_recursion (FitsRow form) rows (rows_fit form t.header t.records rows t.rows_are.written);
  distinct = t.rows_are.distinct;
}

length_zip : {A B : Type 0} (xs : List A) (ys : List B) → length ys ≡ length xs → length (zip xs ys) ≡ length xs
length_zip [] ys h = refl
length_zip (x ∷ xs) [] h = absurd (omega arith)
length_zip (x ∷ xs) (y ∷ ys) h = ap suc (length_zip xs ys (omega arith))

-- a row that fits has a value for each column
pub fitting_length : (form : TableForm) (row : List Val) → length form.no_null ≡ length form.cols → FitsRow form row → length row ≡ length form.cols
fitting_length form row same h = zip_length FitsColumn (zip form.cols form.no_null) row h ∙ length_zip form.cols form.no_null same
