-- How often a key stands in a list, of which some elements are taken out.
use Rattle.std.proofs.Common.{◌≡◌, ◌≢◌, ℕ, ◌+◌, ◌≤◌, ◌==◌, Bool, true, false, cond, not, Some, List, [], ◌∷◌, ◌++◌, refl, sym, ap, ◌∙◌, arith, count_by}
use Rattle.std.specs.Prelude.{filter, find}
use Rattle.std.proofs.lemmas.Bool.{eqb-true, ne_eqb}
use Rattle.std.proofs.lemmas.List.Sums.{sum_by-cons, sum_by_push}

abbrev pub one_if : Bool → ℕ
one_if b = cond b 1 0

pub one_le : (b : Bool) → one_if b ≤ 1
one_le true = omega arith
one_le false = omega arith

pub other_key : (n m : ℕ) → n ≢ m → one_if (n == m) ≡ 0
other_key n m e = ap (λ b. one_if b) (ne_eqb n m e)

module _ {A : Type 0} (key : A → ℕ) where
  abbrev pub times : ℕ → List A → ℕ
  times n xs = count_by (λ x. key x == n) xs

  times_cons : (n : ℕ) (x : A) (xs : List A) → times n (x ∷ xs) ≡ one_if (key x == n) + times n xs
  times_cons n x xs = sum_by-cons (λ y. one_if (key y == n)) x xs

  pub times_push : (n : ℕ) (xs : List A) (x : A) → times n (xs ++ x ∷ []) ≡ times n xs + one_if (key x == n)
  times_push n xs x = sum_by_push (λ y. one_if (key y == n)) xs x

  cut_le : (b : Bool) (n : ℕ) (x : A) (xs : List A) → times n (cond b (x ∷ xs) xs) ≤ one_if (key x == n) + times n xs
  cut_le true n x xs = omega (arith, times_cons n x xs)
  cut_le false n x xs = omega arith

  -- of the elements that stay there are no more
  pub times_filter : (test : A → Bool) (n : ℕ) (xs : List A) → times n (filter test xs) ≤ times n xs
  times_filter test n [] = omega arith
  times_filter test n (x ∷ xs) = omega (arith, cut_le (test x) n x (filter test xs), times_filter test n xs, times_cons n x xs)

  cut_gone : (b : Bool) (n : ℕ) (x : A) (xs : List A) → (key x == n) ≡ b → times n xs ≡ 0 → times n (cond (not b) (x ∷ xs) xs) ≡ 0
  cut_gone true n x xs e h = h
  cut_gone false n x xs e h = omega (arith, times_cons n x xs, ap (λ b. one_if b) e, h)

  -- those with a key are gone
  pub times_gone : (n : ℕ) (xs : List A) → times n (filter (λ x. not (key x == n)) xs) ≡ 0
  times_gone n [] = refl
  times_gone n (x ∷ xs) = cut_gone (key x == n) n x (filter (λ y. not (key y == n)) xs) refl (times_gone n xs)

  cut_other : (b : Bool) (m n : ℕ) (x : A) (xs : List A) → (key x == m) ≡ b → n ≢ m → times n (cond (not b) (x ∷ xs) xs) ≡ one_if (key x == n) + times n xs
  cut_other true m n x xs e away = omega (arith, other_key (key x) n (λ same. away (sym same ∙ eqb-true (key x) m e)))
  cut_other false m n x xs e away = times_cons n x xs

  -- .. and those with another key stay
  pub times_other : (m n : ℕ) (xs : List A) → n ≢ m → times n (filter (λ x. not (key x == m)) xs) ≡ times n xs
  times_other m n [] away = refl
  times_other m n (x ∷ xs) away = omega (arith, cut_other (key x == m) m n x (filter (λ y. not (key y == m)) xs) refl away, times_other m n xs away, times_cons n x xs)

  found_at : (b : Bool) (n : ℕ) (x : A) (xs : List A) (q : A) → (key x == n) ≡ b → (find (λ y. key y == n) xs ≡ Some q → (key q ≡ n) × (1 ≤ times n xs))
      → cond b (Some x) (find (λ y. key y == n) xs) ≡ Some q → (key q ≡ n) × (1 ≤ times n (x ∷ xs))
  found_at true n x xs q e rest f =
      let same : x ≡ q = cc in
      (ap key (sym same) ∙ eqb-true (key x) n e, omega (arith, times_cons n x xs, ap (λ b. one_if b) e))
  found_at false n x xs q e rest f = ((rest f).0, omega (arith, times_cons n x xs, (rest f).1))

  -- one that is found has the key
  pub found_key : (n : ℕ) (xs : List A) (q : A) → find (λ x. key x == n) xs ≡ Some q → (key q ≡ n) × (1 ≤ times n xs)
  found_key n [] q e = cc
  found_key n (x ∷ xs) q e = found_at (key x == n) n x xs q refl (found_key n xs q) e
