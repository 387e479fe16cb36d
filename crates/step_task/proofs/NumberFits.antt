-- The numbers of values in dictionaries.
use Rattle.std.proofs.Common.{◌≡◌, ◌<◌, ◌≤◌, ◌+◌, ℕ, Bool, true, false, cond, List, [], ◌∷◌, length, refl, sym, ap, subst, arith}
use Rattle.std.specs.Prelude.{◌||◌}
use Rattle.std.specs.Ordering.{eq_by_cmp, is_eq, is_lt}
use Rattle.std.specs.declared.cmp.Ordering.{Ordering}
use Rattle.std.specs.declared.cmp.Ordering.TheVariants.{Less, Equal, Greater}
use Rattle.std.proofs.lemmas.List.Sums.{count_by-le-length, sum_by-cons}
use Rattle.aggregation.proofs.GroupFacts.{itself, tied}
use Rattle.cube_val.specs.declared.val.Val.{Val}
use Rattle.cube_val.specs.Order.{val_cmp}
use Rattle.cube_val.specs.OrderLaws.{val_cmp_total}
use Rattle.cube_val.proofs.OrderFacts.{val_cmp_exact}
use Rattle.layer_builder.specs.Base.{number_in}
use Rattle.step_codec.specs.Bodies.{is_in}

not_less : (o : Ordering) → is_eq o ≡ true → is_lt o ≡ false
not_less Less e = absurd cc
not_less Equal e = refl
not_less Greater e = absurd cc

same_not_less : (x v : Val) → eq_by_cmp val_cmp v x ≡ true → is_lt (val_cmp x v) ≡ false
same_not_less x v e =
    let same : v ≡ x = tied val_cmp_total val_cmp_exact v x e in
    subst (λ (u : Val). is_lt (val_cmp x u) ≡ false) (sym same) (not_less (val_cmp x x) (itself val_cmp_total val_cmp_exact x))

abbrev one_if : Bool → ℕ
one_if b = cond b 1 0

-- a value that is in a dictionary has a number below its length
pub number_below : (dict : List Val) (v : Val) → is_in dict v ≡ true → number_in dict v < length dict
number_below [] v e = absurd cc
number_below (x ∷ dict) v e = by (eq_by_cmp val_cmp v x) refl e (number_below dict v) where
  step : number_in (x ∷ dict) v ≡ one_if (is_lt (val_cmp x v)) + number_in dict v
  step = sum_by-cons (λ (w : Val). one_if (is_lt (val_cmp w v))) x dict

  least : (b : Bool) → one_if b ≤ 1
  least true = omega arith
  least false = omega arith

  by : (b : Bool) → eq_by_cmp val_cmp v x ≡ b → (b || is_in dict v) ≡ true → (is_in dict v ≡ true → number_in dict v < length dict) → number_in (x ∷ dict) v < length (x ∷ dict)
  by true is e rest =
      let none : one_if (is_lt (val_cmp x v)) ≡ 0 = ap one_if (same_not_less x v is) in
      omega (arith, step, none, count_by-le-length (λ (w : Val). is_lt (val_cmp w v)) dict)
  by false is e rest = omega (arith, step, least (is_lt (val_cmp x v)), rest e)
