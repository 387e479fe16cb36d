-- Dictionaries, and the bytes that they are written as.
use Rattle.std.specs.Prelude.{◌≤◌, ℕ, List, length}
use Rattle.std.specs.List.{AllByRecursion}
use Rattle.std.specs.List.Sorted.{IsStrictlySortedBy}
use Rattle.byte_frame.specs.Spelling.{EachFits, list_text}
use Rattle.cube_val.specs.declared.val.Val.{Val}
use Rattle.cube_val.specs.Order.{val_cmp}
use Rattle.step_fields.specs.Fits.{FitsColumn}
use Rattle.step_fields.specs.Spelling.{val_text}
use Rattle.cube_fields.specs.declared.dicts.DictForm.{DictForm}

-- a u32 count, and the values
abbrev pub dict_text : List Val → List ℕ
dict_text values = list_text val_text values

-- values of the column that rise strictly, and at most so many
pub record FitsDict (form : DictForm) (values : List Val) : Type 0 where
  pub few : length values ≤ form.limit
  pub fit : AllByRecursion (FitsColumn form.column) values
  pub rising : IsStrictlySortedBy val_cmp values

-- a u32 count, and the dictionaries
abbrev pub dicts_text : List (List Val) → List ℕ
dicts_text dicts = list_text dict_text dicts

-- one dictionary for each form
abbrev pub FitsDicts : List DictForm → List (List Val) → Type 0
FitsDicts forms dicts = EachFits FitsDict forms dicts
