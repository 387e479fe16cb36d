-- Facts about the columns of a form in a header.
use Rattle.std.proofs.Common.{◌≡◌, ◌<◌, ◌+◌, ℕ, suc, List, [], ◌∷◌, Bool, refl, ap, length, get_or, drop, arith, add-one, drop-cons}
use Rattle.cube_val.specs.declared.form.ColDesc.{ColDesc}
use Rattle.table_reader.specs.Columns.{column_in, columns_in}

-- the columns from a place on begin with the one there
pub columns_in-drop : (header : List (List ℕ)) (columns : List ColDesc) (no_nulls : List Bool) (i : ℕ) (column : ColDesc) (no_null : Bool)
    → i < length columns → i < length no_nulls
    → columns_in header (drop i columns) (drop i no_nulls)
    ≡ column_in header (get_or columns i column) (get_or no_nulls i no_null) ∷ columns_in header (drop (i + 1) columns) (drop (i + 1) no_nulls)
columns_in-drop header columns no_nulls i column no_null h k =
    let first = drop-cons columns i column in
    let second = drop-cons no_nulls i no_null in
    rw (first, second, add-one) refl

-- there are as many columns as in the form
pub length-columns_in : (header : List (List ℕ)) (columns : List ColDesc) (no_nulls : List Bool) → length no_nulls ≡ length columns → length (columns_in header columns no_nulls) ≡ length columns
length-columns_in header [] no_nulls h = refl
length-columns_in header (column ∷ columns) [] h = absurd (omega arith)
length-columns_in header (column ∷ columns) (no_null ∷ no_nulls) h = ap suc (length-columns_in header columns no_nulls (omega arith))
