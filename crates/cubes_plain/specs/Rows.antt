-- Rows of the three columns D1, D2 and M, as lists of values.
use Rattle.std.specs.Prelude.{◌≡◌, ⊤, ℤ, List, length, slice_index_or}
use Rattle.cube_val.specs.Order.{number_of}
use Rattle.cube_val.specs.Values.{FitsType}
use Rattle.cube_val.specs.declared.val.ColType.TheVariants as ty
use Rattle.cube_val.specs.declared.val.Val.{Val}
use Rattle.cube_val.specs.declared.val.Val.TheVariants.{Null, Int, Text}

abbrev pub IsInt : Val → Type 0
IsInt Null = ⊥
IsInt (Int n) = ⊤
IsInt (Text t) = ⊥

-- the columns of a row
abbrev pub d1_of : List Val → Val
d1_of row = slice_index_or row 0 Null

abbrev pub d2_of : List Val → Val
d2_of row = slice_index_or row 1 Null

abbrev pub m_of : List Val → Val
m_of row = slice_index_or row 2 Null

-- a row of the three columns: two texts, and a number that is not null
abbrev pub IsFactRow : List Val → Type 0
IsFactRow row = (length row ≡ 3) × FitsType ty.Text (d1_of row) × FitsType ty.Text (d2_of row) × IsInt (m_of row)

-- what a row adds
abbrev pub item_of : List Val → ℤ
item_of row = number_of (m_of row)
