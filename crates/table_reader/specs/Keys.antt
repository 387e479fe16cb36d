-- The keys of rows.
use Rattle.std.specs.Prelude.{◌≡◌, ◌≢◌, ◌<◌, ℕ, List, [], Bool, true, false, All, Any, length, map, slice_index_or, take}
use Rattle.std.specs.List.{list_any}
use Rattle.cube_val.specs.declared.val.Val.{Val}
use Rattle.cube_val.specs.declared.val.Val.TheVariants.{Null, Int, Text}

-- the value of a row at a place, null where it has none there
abbrev pub val_at : List Val → ℕ → Val
val_at row place = slice_index_or row place Null

-- the key of a row: its values at the places of the key's columns
abbrev pub key_of : List ℕ → List Val → List Val
key_of places row = map (val_at row) places

-- each place is one of the row's
abbrev pub AreWithin : List ℕ → List Val → Type 0
AreWithin places row = All (λ place. place < length row) places

abbrev pub is_null : Val → Bool
is_null Null = true
is_null (Int n) = false
is_null (Text t) = false

abbrev pub has_null : List Val → Bool
has_null key = list_any is_null key

-- there is a key, and the row's has no null and is that of one of the rows
abbrev pub Repeats : List ℕ → List (List Val) → List Val → Type 0
Repeats places rows row =
    (places ≢ []) × (has_null (key_of places row) ≡ false) × Any (λ earlier. key_of places earlier ≡ key_of places row) rows

-- no row repeats the key of an earlier one
abbrev pub HasDistinctKeys : List ℕ → List (List Val) → Type 0
HasDistinctKeys places rows = (i : ℕ) → i < length rows → Repeats places (take i rows) (slice_index_or rows i []) → ⊥
