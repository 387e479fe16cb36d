-- The kinds of aggregate, and the forms in which a cube keeps them.
use Rattle.std.specs.Prelude.{◌==◌, ℕ, Bool}
use Rattle.measure_laws.specs.declared.measure.MeasureForm.{MeasureForm}
use Rattle.measure_laws.specs.declared.measure.MeasureForm.TheVariants as form
use Rattle.plain_answer.specs.declared.ask.AggKind.{AggKind}
use Rattle.plain_answer.specs.declared.ask.AggKind.TheVariants as kind

-- the form in which an aggregate is kept; of an average the sum
abbrev pub form_of_kind : AggKind → MeasureForm
form_of_kind kind.Count = form.Count
form_of_kind kind.Known = form.Known
form_of_kind kind.Sum = form.Sum
form_of_kind kind.Min = form.Min
form_of_kind kind.Max = form.Max
form_of_kind kind.Distinct = form.Distinct
form_of_kind kind.Avg = form.Sum

-- the kind of aggregate that a measure of the form is
abbrev pub kind_of_form : MeasureForm → AggKind
kind_of_form form.Count = kind.Count
kind_of_form form.Known = kind.Known
kind_of_form form.Sum = kind.Sum
kind_of_form form.Min = kind.Min
kind_of_form form.Max = kind.Max
kind_of_form form.Distinct = kind.Distinct

-- the kinds in turn
abbrev pub kind_number : AggKind → ℕ
kind_number kind.Count = 0
kind_number kind.Known = 1
kind_number kind.Sum = 2
kind_number kind.Min = 3
kind_number kind.Max = 4
kind_number kind.Distinct = 5
kind_number kind.Avg = 6

abbrev pub same_kind : AggKind → AggKind → Bool
same_kind a b = kind_number a == kind_number b
