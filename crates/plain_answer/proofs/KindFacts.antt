-- A measure is kept in the form that it has.
use Rattle.std.proofs.Common.{◌≡◌, refl}
use Rattle.measure_laws.specs.declared.measure.MeasureForm.{MeasureForm}
use Rattle.measure_laws.specs.declared.measure.MeasureForm.TheVariants as form
use Rattle.plain_answer.specs.Kinds.{form_of_kind, kind_of_form}

pub kept_form : (f : MeasureForm) → form_of_kind (kind_of_form f) ≡ f
kept_form form.Count = refl
kept_form form.Known = refl
kept_form form.Sum = refl
kept_form form.Min = refl
kept_form form.Max = refl
kept_form form.Distinct = refl
