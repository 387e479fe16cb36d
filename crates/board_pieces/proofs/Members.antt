-- Lists without one of their members.
use Rattle.std.proofs.Common.{◌≡◌, ℕ, ◌+◌, Bool, true, false, cond, not, List, [], ◌∷◌, ◌++◌, All, length, refl, arith}
use Rattle.std.specs.Prelude.{count_by, filter}
use Rattle.std.proofs.lemmas.List.Elements.{All-cons, All-head, All-nil, All-tail}
use Rattle.std.proofs.lemmas.List.Sorted.{All-permutation, IsPermutation-sym}
use Rattle.std.proofs.lemmas.List.Sums.{sum_by-append, sum_by-cons}
use Rattle.worker_pool.specs.Lists.{IsWithout}
use Rattle.worker_pool.proofs.Lists.{without-first}

abbrev pub one_if : Bool → ℕ
one_if b = cond b 1 0

count_split : (b : Bool) (n : ℕ) → one_if b + n ≡ 0 → (b ≡ false) × (n ≡ 0)
count_split true n e = absurd (omega (arith, e))
count_split false n e = (refl, omega (arith, e))

module _ {A : Type 0} where
  pub count-cons : (test : A → Bool) (x : A) (xs : List A) → count_by test (x ∷ xs) ≡ one_if (test x) + count_by test xs
  count-cons test x xs = sum_by-cons (λ y. one_if (test y)) x xs

  pub count-append : (test : A → Bool) (xs ys : List A) → count_by test (xs ++ ys) ≡ count_by test xs + count_by test ys
  count-append test xs ys = sum_by-append (λ y. one_if (test y)) xs ys

  pub count-without : (test : A → Bool) (x : A) (whole rest : List A) → IsWithout x whole rest → count_by test whole ≡ one_if (test x) + count_by test rest
  count-without test x whole rest w =
      rw (w.before, w.after) (omega (arith, count-append test w.front (x ∷ w.back), count-cons test x w.back, count-append test w.front w.back))

  -- the member first, or where it stood
  pub all-first : (P : A → Type 0) (x : A) (whole rest : List A) → IsWithout x whole rest → All P whole → All P (x ∷ rest)
  all-first P x whole rest w h = All-permutation P whole (x ∷ rest) (IsPermutation-sym (x ∷ rest) whole (without-first x whole rest w)) h

  pub all-back : (P : A → Type 0) (x : A) (whole rest : List A) → IsWithout x whole rest → All P (x ∷ rest) → All P whole
  all-back P x whole rest w h = All-permutation P (x ∷ rest) whole (without-first x whole rest w) h

  pub all-member : (P : A → Type 0) (x : A) (whole rest : List A) → IsWithout x whole rest → All P whole → P x
  all-member P x whole rest w h = All-head P x rest (all-first P x whole rest w h)

  -- none passes a test that none is counted by
  pub none-counted : (test : A → Bool) (xs : List A) → count_by test xs ≡ 0 → All (λ x. test x ≡ false) xs
  none-counted test [] e = All-nil (λ x. test x ≡ false)
  none-counted test (x ∷ xs) e =
      let parts = count_split (test x) (count_by test xs) (omega (arith, count-cons test x xs, e)) in
      All-cons (λ y. test y ≡ false) x xs parts.0 (none-counted test xs parts.1)

  -- two facts of each
  pub all-both : (P Q : A → Type 0) (xs : List A) → All P xs → All Q xs → All (λ x. P x × Q x) xs
  all-both P Q [] h k = All-nil (λ x. P x × Q x)
  all-both P Q (x ∷ xs) h k =
      All-cons (λ y. P y × Q y) x xs (All-head P x xs h, All-head Q x xs k) (all-both P Q xs (All-tail P x xs h) (All-tail Q x xs k))

  kept_length : (b : Bool) (x : A) (xs kept : List A) (n : ℕ) → length kept + n ≡ length xs → length (cond (not b) (x ∷ kept) kept) + (one_if b + n) ≡ length (x ∷ xs)
  kept_length true x xs kept n e = omega (arith, e)
  kept_length false x xs kept n e = omega (arith, e)

  -- those that stay and those that don't are all
  pub length-filter_not : (test : A → Bool) (xs : List A) → length (filter (λ x. not (test x)) xs) + count_by test xs ≡ length xs
  length-filter_not test [] = refl
  length-filter_not test (x ∷ xs) =
      omega (arith, kept_length (test x) x xs (filter (λ y. not (test y)) xs) (count_by test xs) (length-filter_not test xs), count-cons test x xs)
