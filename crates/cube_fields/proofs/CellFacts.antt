-- Cells and what they hold.
use Rattle.std.proofs.Common.{◌≡◌, ◌≤◌, ◌<◌, ◌*◌, ◌^◌, ℕ, ℤ, pos, negsuc, neg_ℤ, List, [], ◌∷◌, length, Some, sym, ◌∙◌, arith}
use Rattle.std.specs.Prelude.{◌≤ℤ◌, nat_abs}
use Rattle.std.specs.List.Sorted.{IsStrictlySortedBy}
use Rattle.std.specs.Ordering.{nat_cmp}
use Rattle.std.proofs.lemmas.Int.{ints}
use Rattle.cell_store.specs.declared.cell.Cell.{Cell}
use Rattle.cell_store.specs.declared.cell.Cell.TheVariants.{Known, Sum, Min, Max, Distinct}
use Rattle.measure_laws.specs.declared.measure.MeasureForm.{MeasureForm}
use Rattle.measure_laws.specs.declared.measure.MeasureForm.TheVariants as measure
use Rattle.measure_laws.specs.Extremes.{Extreme}
use Rattle.measure_laws.specs.Ids.{Ids, IsCountOf}
use Rattle.measure_laws.specs.IdFacts.{different-rising, same_ids}
use Rattle.measure_laws.specs.Measures.{IsSum, most_of_item}
use Rattle.cube_fields.specs.Cells.{FitsCell, FitsForm, IsShortCell}
use Rattle.cube_fields.specs.Reading.{set_of}
use Rattle.cube_fields.specs.declared.forms.CellField.{CellField}

pub extreme_is : (m : Extreme) (n : ℕ) (v : ℤ) → m.items ≡ n → m.value ≡ Some v → m ≡ record { items = n; value = Some v }
extreme_is m n v e f = λ i. record { items = e i; value = f i }

pub set_is : (d : Ids) (n : ℕ) (ids : List ℕ) → IsStrictlySortedBy nat_cmp ids → d.items ≡ n → d.ids ≡ ids → d ≡ set_of n ids
set_is d n ids up e f = same_ids d (set_of n ids) e (f ∙ sym (different-rising ids up))

abs_low : (z : ℤ) (n : ℕ) → nat_abs z ≤ n → neg_ℤ (pos n) ≤ℤ z
abs_low (pos k) n h = omega (arith, ints)
abs_low (negsuc k) n h = omega (arith, ints, h)

abs_high : (z : ℤ) (n : ℕ) → nat_abs z ≤ n → z ≤ℤ pos n
abs_high (pos k) n h = omega (arith, ints, h)
abs_high (negsuc k) n h = omega (arith, ints)

pub is_sum : (n : ℕ) (z : ℤ) → n < 2 ^ 32 → nat_abs z ≤ n * most_of_item → IsSum (record { items = n; total = z })
is_sum n z small h = record { few = omega (arith, small); low = abs_low z (n * most_of_item) h; high = abs_high z (n * most_of_item) h }

not_nil : (ids : List ℕ) → 0 < length ids → ids ≡ [] → ⊥
not_nil [] some e = absurd (omega (arith, some))
not_nil (x ∷ ids) some e = cc

pub is_count : (n : ℕ) (ids : List ℕ) → n < 2 ^ 32 → 0 < length ids → length ids ≤ n → IsCountOf ids n
is_count n ids small some few = record { few = omega (arith, small); fewer = few; none = (λ e. absurd (not_nil ids some e), λ e. absurd (omega (arith, some, few, e))) }

-- the list of a cell that fits has a number of items that has a place
short_form : (n size : ℕ) (f : MeasureForm) (c : Cell) → n < 2 ^ 32 → FitsForm n size f c → IsShortCell c
short_form n size measure.Distinct (Distinct d) few h = omega (arith, few, h.1.1.0)
short_form n size measure.Known (Known k) few h = tt
short_form n size measure.Sum (Sum s) few h = tt
short_form n size measure.Min (Min m) few h = tt
short_form n size measure.Max (Max m) few h = tt
short_form n size f c few h = absurd h

pub short_cell : (n : ℕ) (field : CellField) (c : Cell) → n < 2 ^ 32 → FitsCell n field c → IsShortCell c
short_cell n field c few h = short_form n field.size field.form c few h
