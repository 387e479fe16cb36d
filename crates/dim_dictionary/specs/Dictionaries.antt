-- Dictionaries: values in their order, each once. The number of a value is its place.
use Rattle.std.specs.Prelude.{◌≡◌, ◌<◌, ◌^◌, ℕ, List, Some, map, length, slice_get}
use Rattle.std.specs.List.{flat_map}
use Rattle.std.specs.List.Sorted.{IsStrictlySortedBy}
use Rattle.cube_val.specs.declared.val.Val.{Val}
use Rattle.cube_val.specs.Order.{val_cmp}
use Rattle.aggregation.specs.Groups.{distinct}

-- the values rise strictly, and each has a number below 2^32
pub record IsDictionary (values : List Val) : Type 0 where
  pub rising : IsStrictlySortedBy val_cmp values
  pub few : length values < 2 ^ 32

-- the distinct values, in order
abbrev pub dictionary_of : List Val → List Val
dictionary_of values = distinct val_cmp values

-- the dictionary of the values of all parts
abbrev pub merged_dictionary : List (List Val) → List Val
merged_dictionary parts = dictionary_of (flat_map (λ part. part) parts)

-- at its new number in the merged dictionary each value of a part is what it was: the numbers stand in the order of the old ones
abbrev pub KeepsValues : List Val → List Val → List ℕ → Type 0
KeepsValues merged part numbers = map (slice_get merged) numbers ≡ map Some part
