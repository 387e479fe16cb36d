-- What each form of measure is of.
use Rattle.std.specs.Prelude.{◌+◌, ◌==◌, ℕ, Bool, true, false, List, [], ◌∷◌, Option, Some, None, bytes_eq, codes, if◌then◌else◌}
use Rattle.measure_laws.specs.declared.kinds.ItemKind.{ItemKind}
use Rattle.measure_laws.specs.declared.kinds.ItemKind.TheVariants.{Rows, Values, Numbers, Ids}
use Rattle.measure_laws.specs.declared.measure.MeasureForm.{MeasureForm}
use Rattle.measure_laws.specs.declared.measure.MeasureForm.TheVariants as form

-- what a form of measure is of
abbrev pub item_kind : MeasureForm → ItemKind
item_kind form.Count = Rows
item_kind form.Known = Values
item_kind form.Sum = Numbers
item_kind form.Min = Numbers
item_kind form.Max = Numbers
item_kind form.Distinct = Ids

abbrev pub are_rows : ItemKind → Bool
are_rows Rows = true
are_rows Values = false
are_rows Numbers = false
are_rows Ids = false

abbrev pub are_ids : ItemKind → Bool
are_ids Rows = false
are_ids Values = false
are_ids Numbers = false
are_ids Ids = true

-- the place of the dictionary after a measure of this kind of items: one of ids has a dictionary
abbrev pub place_after : ItemKind → ℕ → ℕ
place_after Rows place = place
place_after Values place = place
place_after Numbers place = place
place_after Ids place = place + 1

-- a measure of the form counts rows, and has no column
abbrev pub counts_rows : MeasureForm → Bool
counts_rows form = are_rows (item_kind form)

-- a measure of the form has a dictionary of its column's values
abbrev pub has_dictionary : MeasureForm → Bool
has_dictionary form = are_ids (item_kind form)

-- the place of the dictionary after a measure
abbrev pub dict_after : MeasureForm → ℕ → ℕ
dict_after form place = place_after (item_kind form) place

-- how many of the measures have a dictionary
abbrev pub dict_count : List MeasureForm → ℕ
dict_count [] = 0
dict_count (form ∷ forms) = dict_after form (dict_count forms)

-- ---- the forms as such

-- the forms in turn
abbrev pub form_number : MeasureForm → ℕ
form_number form.Count = 0
form_number form.Known = 1
form_number form.Sum = 2
form_number form.Min = 3
form_number form.Max = 4
form_number form.Distinct = 5

abbrev pub same_form : MeasureForm → MeasureForm → Bool
same_form a b = form_number a == form_number b

-- the form that a word of a descriptor names, if it names one; counts of known values are kept unasked, and have no word
abbrev pub form_of_word : List ℕ → Option MeasureForm
form_of_word word =
    if bytes_eq word (codes "COUNT") then Some form.Count else (if bytes_eq word (codes "SUM") then Some form.Sum
    else (if bytes_eq word (codes "MIN") then Some form.Min else (if bytes_eq word (codes "MAX") then Some form.Max
    else (if bytes_eq word (codes "COUNT_DISTINCT") then Some form.Distinct else None))))
