-- The laws of the least and of the greatest item.
use Rattle.std.proofs.Common.{◌≡◌, ◌++◌, ℕ, List, [], ◌∷◌, fold, refl, ap, ◌∙◌, arith, length-append, Some, None}
use Rattle.std.specs.Prelude.{ℤ, Option}
use Rattle.std.specs.Int.{int_max, int_min}
use Rattle.std.specs.List.{reduce}
use Rattle.std.proofs.lemmas.Int.{clamps, ints}
use Rattle.measure_laws.specs.Measures.{MeasureLaws}
use Rattle.measure_laws.specs.Extremes.{Extreme, greatest_of, least_of, merged_greatest, merged_least, picked}

int_min_assoc : (x y z : ℤ) → int_min (int_min x y) z ≡ int_min x (int_min y z)
int_min_assoc x y z = omega (arith, ints, clamps)

int_min_comm : (x y : ℤ) → int_min x y ≡ int_min y x
int_min_comm x y = omega (arith, ints, clamps)

int_max_assoc : (x y z : ℤ) → int_max (int_max x y) z ≡ int_max x (int_max y z)
int_max_assoc x y z = omega (arith, ints, clamps)

int_max_comm : (x y : ℤ) → int_max x y ≡ int_max y x
int_max_comm x y = omega (arith, ints, clamps)

same_extreme : (m n : ℕ) (a b : Option ℤ) → m ≡ n → a ≡ b → (let x : Extreme = record { items = m; value = a } in x) ≡ record { items = n; value = b }
same_extreme m n a b p q = λ i. record { items = p i; value = q i }

module _ (pick : ℤ → ℤ → ℤ) (assoc : (x y z : ℤ) → pick (pick x y) z ≡ pick x (pick y z)) (comm : (x y : ℤ) → pick x y ≡ pick y x) where
  picked_assoc : (a b c : Option ℤ) → picked pick (picked pick a b) c ≡ picked pick a (picked pick b c)
  picked_assoc None b c = refl
  picked_assoc (Some x) None c = refl
  picked_assoc (Some x) (Some y) None = refl
  picked_assoc (Some x) (Some y) (Some z) = ap Some (assoc x y z)

  picked_comm : (a b : Option ℤ) → picked pick a b ≡ picked pick b a
  picked_comm None None = refl
  picked_comm None (Some y) = refl
  picked_comm (Some x) None = refl
  picked_comm (Some x) (Some y) = ap Some (comm x y)

  fold_from : (a b : ℤ) (xs : List ℤ) → fold pick (pick a b) xs ≡ pick a (fold pick b xs)
  fold_from a b [] = refl
  fold_from a b (x ∷ xs) = ap (λ t. fold pick t xs) (assoc a b x) ∙ fold_from a (pick b x) xs

  fold-append : (a : ℤ) (xs ys : List ℤ) → fold pick a (xs ++ ys) ≡ fold pick (fold pick a xs) ys
  fold-append a [] ys = refl
  fold-append a (x ∷ xs) ys = fold-append (pick a x) xs ys

  append-nil : (xs : List ℤ) → xs ++ [] ≡ xs
  append-nil [] = refl
  append-nil (x ∷ xs) = ap (λ t. x ∷ t) (append-nil xs)

  reduce-append : (xs ys : List ℤ) → reduce pick (xs ++ ys) ≡ picked pick (reduce pick xs) (reduce pick ys)
  reduce-append [] ys = refl
  reduce-append (x ∷ xs) [] = ap (λ t. Some (fold pick x t)) (append-nil xs)
  reduce-append (x ∷ xs) (y ∷ ys) = ap Some (fold-append x xs (y ∷ ys) ∙ fold_from (fold pick x xs) y ys)

pub least_laws : MeasureLaws (λ (e : Extreme). e.items) least_of merged_least
least_laws = record {
  associative = λ a b c. same_extreme _ _ _ _ (omega arith) (picked_assoc int_min int_min_assoc int_min_comm a.value b.value c.value);
  commutative = λ a b. same_extreme _ _ _ _ (omega arith) (picked_comm int_min int_min_assoc int_min_comm a.value b.value);
  neutral = λ a. same_extreme _ _ _ _ (omega arith) refl;
  joined = λ xs ys. same_extreme _ _ _ _ (length-append xs ys) (reduce-append int_min int_min_assoc int_min_comm xs ys);
  counted = λ xs. refl;
  counts_add = λ a b. refl;
}

pub greatest_laws : MeasureLaws (λ (e : Extreme). e.items) greatest_of merged_greatest
greatest_laws = record {
  associative = λ a b c. same_extreme _ _ _ _ (omega arith) (picked_assoc int_max int_max_assoc int_max_comm a.value b.value c.value);
  commutative = λ a b. same_extreme _ _ _ _ (omega arith) (picked_comm int_max int_max_assoc int_max_comm a.value b.value);
  neutral = λ a. same_extreme _ _ _ _ (omega arith) refl;
  joined = λ xs ys. same_extreme _ _ _ _ (length-append xs ys) (reduce-append int_max int_max_assoc int_max_comm xs ys);
  counted = λ xs. refl;
  counts_add = λ a b. refl;
}
