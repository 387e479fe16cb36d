-- Forms of measure are told apart by their numbers.
use Rattle.std.proofs.Common.{◌≡◌, ◌∙◌, ℕ, zero, suc, true, refl, sym, ap}
use Rattle.std.proofs.lemmas.Bool.{eqb-true}
use Rattle.measure_laws.specs.declared.measure.MeasureForm.{MeasureForm}
use Rattle.measure_laws.specs.declared.measure.MeasureForm.TheVariants as form
use Rattle.measure_laws.specs.Kinds.{form_number, same_form}

form_at : ℕ → MeasureForm
form_at zero = form.Count
form_at (suc zero) = form.Known
form_at (suc (suc zero)) = form.Sum
form_at (suc (suc (suc zero))) = form.Min
form_at (suc (suc (suc (suc zero)))) = form.Max
form_at (suc (suc (suc (suc (suc n))))) = form.Distinct

form_back : (f : MeasureForm) → form_at (form_number f) ≡ f
unfolding form_at
form_back form.Count = refl
form_back form.Known = refl
form_back form.Sum = refl
form_back form.Min = refl
form_back form.Max = refl
form_back form.Distinct = refl

pub same_form_is : (a b : MeasureForm) → same_form a b ≡ true → a ≡ b
same_form_is a b e = sym (form_back a) ∙ ap form_at (eqb-true (form_number a) (form_number b) e) ∙ form_back b
