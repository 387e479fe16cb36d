-- Dictionaries are read exactly.
use Rattle.std.proofs.Common.{◌≡◌, ◌≤◌, ◌<◌, ◌^◌, ℕ, true, List, [], ◌∷◌, length, Some, arith}
use Rattle.std.specs.List.{AllByRecursion}
use Rattle.byte_frame.specs.Exact.{Exact}
use Rattle.byte_frame.specs.Reading.{list_at}
use Rattle.byte_frame.specs.Spelling.{rises}
use Rattle.byte_frame.proofs.Exact.{exact_counted, exact_fit, exact_if, exact_list}
use Rattle.cube_val.specs.declared.val.Val.{Val}
use Rattle.cube_val.specs.Order.{val_cmp}
use Rattle.cube_val.specs.OrderLaws.{val_cmp_total}
use Rattle.dim_dictionary.specs.Dictionaries.{IsDictionary}
use Rattle.step_fields.specs.Fits.{FitsColumn}
use Rattle.step_fields.specs.Reading.{val_at}
use Rattle.step_fields.specs.Spelling.{val_text}
use Rattle.step_fields.proofs.Exact.{exact_val}
use Rattle.cube_fields.specs.Dicts.{FitsDict, FitsDicts, dict_text, dicts_text}
use Rattle.cube_fields.specs.Orders.{before}
use Rattle.cube_fields.specs.Reading.{dict_at, dicts_at}
use Rattle.cube_fields.specs.declared.dicts.DictForm.{DictForm}
use Rattle.cube_fields.proofs.Given.{gets_any, gets_list}
use Rattle.cube_fields.proofs.Rises.{rising, sorted}

pub exact_dict : (form : DictForm) → form.limit < 2 ^ 32 → Exact dict_text (FitsDict form) (dict_at form)
exact_dict form small =
    exact_fit dict_text (λ (values : List Val). ((length values ≤ form.limit) × AllByRecursion (FitsColumn form.column) values) × (rises (before val_cmp) values ≡ true)) (FitsDict form) (dict_at form)
    (λ values h. record { few = h.0.0; fit = h.0.1; rising = sorted val_cmp_total values h.1 })
    (λ values h. ((h.few, h.fit), rising val_cmp_total values h.rising))
    (exact_if (rises (before val_cmp)) _ _ _ (exact_list form.limit val_text (FitsColumn form.column) (val_at form.column) small (exact_val form.column)))

each_dict : (forms : List DictForm) → AllByRecursion (λ (form : DictForm). form.limit < 2 ^ 32) forms → AllByRecursion (λ (form : DictForm). Exact dict_text (FitsDict form) (dict_at form)) forms
each_dict [] small = tt
each_dict (form ∷ forms) small = (exact_dict form small.0, each_dict forms small.1)

pub exact_dicts : (forms : List DictForm) → length forms < 2 ^ 32 → AllByRecursion (λ (form : DictForm). form.limit < 2 ^ 32) forms → Exact dicts_text (FitsDicts forms) (dicts_at forms)
exact_dicts forms short small = exact_counted dict_text FitsDict dict_at forms (each_dict forms small) short

-- values that were read as a list and rise are a dictionary
pub is_dictionary : (form : DictForm) (bytes : List ℕ) (values : List Val) (rest : List ℕ) → form.limit < 2 ^ 32 → list_at form.limit (val_at form.column) bytes ≡ Some (values, rest) → rises (before val_cmp) values ≡ true → IsDictionary values
is_dictionary form bytes values rest small e up =
    let few = gets_list (λ (v : Val). Unit {0}) form.limit (val_at form.column) (gets_any (val_at form.column)) bytes (values, rest) e in
    record { rising = sorted val_cmp_total values up; few = omega (arith, few.0, small) }
