-- The functions of measures.
use Rattle.std.specs.Prelude.{ℕ, List, [], ◌∷◌, ◌++◌, Option, Some, None, codes, Bool, false, ◌&&◌, bytes_eq}
use Rattle.measure_laws.specs.declared.kinds.ItemKind.{ItemKind}
use Rattle.measure_laws.specs.declared.kinds.ItemKind.TheVariants.{Rows, Values, Numbers, Ids}
use Rattle.measure_laws.specs.declared.measure.MeasureForm.{MeasureForm}
use Rattle.measure_laws.specs.Kinds.{form_of_word, item_kind}
use Rattle.descriptor_json.specs.Places.{JsonPointer}
use Rattle.descriptor_json.specs.declared.raw.RawMeasure.{RawMeasure}
use Rattle.descriptor_json.specs.declared.raw.RawDesc.{RawDesc}
use Rattle.desc_checks.specs.Firsts.{unless, along}
use Rattle.desc_checks.specs.Columns.{takes_column}
use Rattle.desc_checks.specs.Tables.{fact_columns}
use Rattle.desc_checks.specs.Types.{type_of, is_number_type}

-- the parameter is the constant 1
abbrev pub takes_one : RawMeasure → Bool
takes_one m = bytes_eq m.function.parameter.kind.text (codes "constant") && bytes_eq m.function.parameter.value.text (codes "1")

-- what a measure of such items is applied to: rows are counted of the constant 1, numbers are of a column of numbers, and
-- different values of any column; known values are counted unasked
abbrev pub takes_parameter : RawDesc → RawMeasure → ItemKind → Bool
takes_parameter r m Rows = takes_one m
takes_parameter r m Values = false
takes_parameter r m Numbers = takes_column m && is_number_type (type_of (fact_columns r) m.function.parameter.value.text)
takes_parameter r m Ids = takes_column m

abbrev pub is_applied : RawDesc → RawMeasure → Option MeasureForm → Bool
is_applied r m None = false
is_applied r m (Some form) = takes_parameter r m (item_kind form)

-- a function that there is, applied to what it takes
abbrev pub is_measure : RawDesc → RawMeasure → Bool
is_measure r m = is_applied r m (form_of_word m.function.expression.text)

-- the function and what it is applied to
abbrev pub function_of : RawMeasure → List ℕ
function_of m = m.function.expression.text ++ 46 ∷ m.function.parameter.value.text

abbrev pub bad_measure : RawDesc → Bool → RawMeasure → List JsonPointer
bad_measure r is_new m = unless (is_new && is_measure r m) m.place

abbrev pub bad_measures : RawDesc → List JsonPointer
bad_measures r = along function_of (bad_measure r) [] r.measures.items
