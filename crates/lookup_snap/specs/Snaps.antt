-- The rows of a lookup by their keys.
use Rattle.std.specs.Prelude.{◌&&◌, not, List, [], ◌∷◌, Bool, Option, Some, None, if◌then◌else◌}
use Rattle.std.specs.List.Sorted.{IsStrictlySortedBy}
use Rattle.std.specs.Map.{keys_of, lookup}
use Rattle.std.specs.Option.{option_or}
use Rattle.std.specs.Ordering.{is_eq}
use Rattle.std.specs.Prelude.{ℕ}
use Rattle.cube_val.specs.Order.{row_cmp}
use Rattle.cube_val.specs.declared.val.Val.{Val}
use Rattle.table_reader.specs.Keys.{has_null, key_of}

-- each key comes before those after it
abbrev pub IsRising : List (List Val × List Val) → Type 0
IsRising entries = IsStrictlySortedBy row_cmp (keys_of entries)

-- the values that stand at a key
abbrev pub value_in : List (List Val × List Val) → List Val → Option (List Val)
value_in entries key = lookup (λ k. is_eq (row_cmp key k)) entries

-- the row's key has no null, and is this one
abbrev pub has_key : List ℕ → List Val → List Val → Bool
has_key places row key = not (has_null (key_of places row)) && is_eq (row_cmp (key_of places row) key)

-- the values of the last row that has the key
abbrev pub values_for : List ℕ → List ℕ → List (List Val) → List Val → Option (List Val)
values_for places cols [] key = None
values_for places cols (row ∷ rows) key = option_or (values_for places cols rows key) (if has_key places row key then Some (key_of cols row) else None)
