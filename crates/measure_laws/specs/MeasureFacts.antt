-- The laws of each measure.
use Rattle.std.proofs.Common.{◌≡◌, ◌+◌, ◌++◌, ℕ, List, [], ◌∷◌, length, refl, ap, arith, length-append, ◌∙◌, sym}
use Rattle.std.specs.Prelude.{ℤ, ◌+ℤ◌}
use Rattle.std.proofs.Math.IntN.{+ℤ_assoc, +ℤ_comm, +ℤ_idl}
use Rattle.measure_laws.specs.Measures.{MeasureLaws, Summed, int_sum, merged_sum, summed}

pub count_laws : MeasureLaws {Item = Unit {0}} (λ c. c) length (λ a b. a + b)
count_laws = record {
  associative = λ a b c. omega arith;
  commutative = λ a b. omega arith;
  neutral = λ a. omega arith;
  joined = λ xs ys. length-append xs ys;
  counted = λ xs. refl;
  counts_add = λ a b. refl;
}

same_summed : (m n : ℕ) (a b : ℤ) → m ≡ n → a ≡ b → (let x : Summed = record { items = m; total = a } in x) ≡ record { items = n; total = b }
same_summed m n a b p q = λ i. record { items = p i; total = q i }

pub int_sum-append : (xs ys : List ℤ) → int_sum (xs ++ ys) ≡ int_sum xs +ℤ int_sum ys
int_sum-append [] ys = sym (+ℤ_idl (int_sum ys))
int_sum-append (x ∷ xs) ys = ap (λ t. x +ℤ t) (int_sum-append xs ys) ∙ sym (+ℤ_assoc x (int_sum xs) (int_sum ys))

pub sum_laws : MeasureLaws (λ (s : Summed). s.items) summed merged_sum
sum_laws = record {
  associative = λ a b c. same_summed _ _ _ _ (omega arith) (+ℤ_assoc a.total b.total c.total);
  commutative = λ a b. same_summed _ _ _ _ (omega arith) (+ℤ_comm a.total b.total);
  neutral = λ a. same_summed _ _ _ _ (omega arith) (+ℤ_idl a.total);
  joined = λ xs ys. same_summed _ _ _ _ (length-append xs ys) (int_sum-append xs ys);
  counted = λ xs. refl;
  counts_add = λ a b. refl;
}
