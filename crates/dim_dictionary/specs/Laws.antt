-- What holds of all dictionaries.
use Rattle.std.specs.Prelude.{◌≡◌, ◌↔◌, ℕ, List, Contains, Some, slice_get}
use Rattle.std.specs.List.Sorted.{IsStrictlySortedBy}
use Rattle.std.specs.Ordering.{nat_cmp}
use Rattle.cube_val.specs.declared.val.Val.{Val}
use Rattle.cube_val.specs.Order.{val_cmp}
use Rattle.dim_dictionary.specs.Dictionaries.{dictionary_of}

-- numbers are in the order of their values: a smaller value has a smaller number
abbrev pub NumbersKeepOrder : Type 0
NumbersKeepOrder =
    (values : List Val) (i j : ℕ) (v w : Val) → IsStrictlySortedBy val_cmp values → slice_get values i ≡ Some v → slice_get values j ≡ Some w
    → nat_cmp i j ≡ val_cmp v w

-- the values of a dictionary rise strictly
abbrev pub DictionariesRise : Type 0
DictionariesRise = (values : List Val) → IsStrictlySortedBy val_cmp (dictionary_of values)

-- a value is in the dictionary of values exactly if it is among them
abbrev pub DictionariesKeepValues : Type 0
DictionariesKeepValues = (values : List Val) (v : Val) → Contains (dictionary_of values) v ↔ Contains values v
