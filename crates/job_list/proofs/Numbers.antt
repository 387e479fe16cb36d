-- Facts on lists of numbers: membership, a number taken out or put last, and no repeats.
use Rattle.std.proofs.Common.{ℕ, zero, suc, ◌+◌, ◌<◌, ◌≤◌, ◌≡◌, Bool, true, false, List, [], ◌∷◌, ◌++◌, length, get_or, refl, sym, ap, ◌∙◌, arith, inl, inr, subst, drop}
use Rattle.std.specs.Prelude.{◌==◌, ◌||◌, Some, slice_get}
use Rattle.std.proofs.lemmas.Bool.Decides.{eqb_tells}
use Rattle.std.proofs.lemmas.Map.Keys.{IsDistinct-cons}
use Rattle.std.proofs.lemmas.Map.Steps.{length-le_from_distinct_below}
use Rattle.std.specs.List.{AllByRecursion, IsDistinct, list_any}
use Rattle.job_list.specs.JobList.{has, without, NoRepeats}

-- true is not false
pub differ : true ≡ false → ⊥
differ h = cc h

-- what two equal options hold
pub some_inj : {A : Type 0} {x y : A} → Some x ≡ Some y → x ≡ y
some_inj h = cc h

-- tests joined by or
pub or_right : (a b : Bool) → b ≡ true → (a || b) ≡ true
or_right true b h = refl
or_right false b h = h

pub or_false : (a b : Bool) → (a || b) ≡ false → (a ≡ false) × (b ≡ false)
or_false true b h = (h, cc h)
or_false false b h = (refl, h)

-- a test that cannot be true
pub false_from : (b : Bool) → (b ≡ true → true ≡ false) → b ≡ false
false_from true h = h refl
false_from false h = refl

-- a test of two numbers
pub same_number : (x k : ℕ) → (x == k) ≡ true → x ≡ k
same_number x k h = elim (eqb_tells x k) [ inl e ↦ e.1 | inr e ↦ absurd (differ (sym h ∙ e.0)) ]

pub equal_test : (x : ℕ) → (x == x) ≡ true
equal_test x = elim (eqb_tells x x) [ inl e ↦ e.0 | inr e ↦ absurd (e.1 refl) ]

pub unequal_test : (x y : ℕ) → (x == y) ≡ false → (y == x) ≡ false
unequal_test x y h = false_from _ (λ p. sym (subst (λ j. (j == y) ≡ true) (same_number y x p) (equal_test y)) ∙ h)

-- a list that hasn't the number stays
pub without-none : (id : ℕ) (xs : List ℕ) → has xs id ≡ false → without id xs ≡ xs
without-none id [] h = refl
without-none id (x ∷ xs) h =
    elim (eqb_tells x id) [ inl e ↦ cc (rw e.0 at h) | inr e ↦ rw e.0 (ap (λ ys. x ∷ ys) (without-none id xs (rw e.0 at h))) ]

-- a number that was taken out is gone, and each other stays
pub has-without_same : (id : ℕ) (xs : List ℕ) → has (without id xs) id ≡ false
has-without_same id [] = refl
has-without_same id (x ∷ xs) =
    elim (eqb_tells x id) [ inl e ↦ rw e.0 (has-without_same id xs) | inr e ↦ rw (e.0, e.0) (has-without_same id xs) ]

pub has-without_other : (id : ℕ) (xs : List ℕ) (k : ℕ) → (k == id) ≡ false → has (without id xs) k ≡ has xs k
has-without_other id [] k other = refl
has-without_other id (x ∷ xs) k other =
    elim (eqb_tells x id) [
      | inl e ↦
          let apart : (x == k) ≡ false = subst (λ j. (j == k) ≡ false) (sym e.1) (unequal_test k id other) in
          rw (e.0, apart) (has-without_other id xs k other)
      | inr e ↦ rw e.0 (ap (λ b. (x == k) || b) (has-without_other id xs k other))
    ]

pub has-without_none : (id : ℕ) (xs : List ℕ) (k : ℕ) → has xs k ≡ false → has (without id xs) k ≡ false
has-without_none id xs k h =
    elim (eqb_tells k id) [
      | inl e ↦ subst (λ j. has (without id xs) j ≡ false) (sym e.1) (has-without_same id xs)
      | inr e ↦ has-without_other id xs k e.0 ∙ h
    ]

-- the list without its first item
pub without-first : (x id : ℕ) (xs : List ℕ) → (x == id) ≡ true → has xs x ≡ false → without id (x ∷ xs) ≡ xs
without-first x id xs e h = rw e (without-none id xs (subst (λ j. has xs j ≡ false) (same_number x id e) h))

-- a list without a number has no repeats either
pub NoRepeats-without : (id : ℕ) (xs : List ℕ) → NoRepeats xs → NoRepeats (without id xs)
NoRepeats-without id [] d = tt
NoRepeats-without id (x ∷ xs) d =
    elim (eqb_tells x id) [
      | inl e ↦ rw (without-first x id xs e.0 d.0) d.1
      | inr e ↦ rw e.0 (has-without_none id xs x d.0, NoRepeats-without id xs d.1)
    ]

pub length-without : (id : ℕ) (xs : List ℕ) → NoRepeats xs → has xs id ≡ true → length (without id xs) + 1 ≡ length xs
length-without id [] d h = absurd (differ (sym h))
length-without id (x ∷ xs) d h =
    elim (eqb_tells x id) [
      | inl e ↦ rw (without-first x id xs e.0 d.0) (omega arith)
      | inr e ↦ let less : length (without id xs) + 1 ≡ length xs = length-without id xs d.1 (rw e.0 at h) in rw e.0 (omega arith)
    ]

-- a number is in two joined lists where it is in one of them
pub has-append : (xs ys : List ℕ) (k : ℕ) → has (xs ++ ys) k ≡ (has xs k || has ys k)
has-append [] ys k = refl
has-append (x ∷ xs) ys k =
    elim (eqb_tells x k) [ inl e ↦ rw e.0 refl | inr e ↦ rw e.0 (has-append xs ys k) ]

-- nor has a list with a new number put last
pub NoRepeats-push : (xs : List ℕ) (id : ℕ) → NoRepeats xs → has xs id ≡ false → NoRepeats (xs ++ id ∷ [])
NoRepeats-push [] id d h = (refl, tt)
NoRepeats-push (x ∷ xs) id d h =
    let parts : ((x == id) ≡ false) × (has xs id ≡ false) = or_false (x == id) _ h in
    let apart : has (xs ++ id ∷ []) x ≡ false = rw (has-append xs (id ∷ []) x, d.0, unequal_test x id parts.0) refl in
    (apart, NoRepeats-push xs id d.1 parts.1)

-- numbers without repeats below a bound are at most as many
pub length-NoRepeats : (xs : List ℕ) (n : ℕ) → NoRepeats xs → ((k : ℕ) → has xs k ≡ true → k < n) → length xs ≤ n
unfolding IsDistinct
length-NoRepeats xs n d below = length-le_from_distinct_below xs n (distinct xs d) (λ q h. below q (flipped xs q h))
  where
    differing : (x : ℕ) (xs : List ℕ) → has xs x ≡ false → AllByRecursion (λ y. (x == y) ≡ false) xs
    differing x [] h = tt
    differing x (y ∷ ys) h =
        let parts : ((y == x) ≡ false) × (has ys x ≡ false) = or_false (y == x) _ h in
        (unequal_test y x parts.0, differing x ys parts.1)

    distinct : (xs : List ℕ) → NoRepeats xs → IsDistinct (◌==◌) xs
    distinct [] d = tt
    distinct (x ∷ xs) d = IsDistinct-cons (◌==◌) x xs (differing x xs d.0) (distinct xs d.1)

    flipped : (xs : List ℕ) (q : ℕ) → list_any (λ y. q == y) xs ≡ true → has xs q ≡ true
    flipped [] q h = h
    flipped (y ∷ ys) q h =
        elim (eqb_tells q y) [
          | inl e ↦ rw (subst (λ j. (y == j) ≡ true) (sym e.1) (equal_test y)) refl
          | inr e ↦ or_right (y == q) _ (flipped ys q (rw e.0 at h))
        ]

-- each item is in the list
pub has-get_or : (xs : List ℕ) (k d : ℕ) → k < length xs → has xs (get_or xs k d) ≡ true
has-get_or [] k d h = absurd (omega arith)
has-get_or (x ∷ xs) zero d h = rw (equal_test x) refl
has-get_or (x ∷ xs) (suc k) d h = or_right (x == get_or xs k d) _ (has-get_or xs k d (omega arith))

-- the first item is in the list, and the list without it is the rest
pub has-front : (xs : List ℕ) (id : ℕ) → slice_get xs 0 ≡ Some id → has xs id ≡ true
has-front [] id e = absurd (cc e)
has-front (x ∷ xs) id e = rw (subst (λ j. (x == j) ≡ true) (some_inj e) (equal_test x)) refl

pub without-front : (xs : List ℕ) (id : ℕ) → NoRepeats xs → slice_get xs 0 ≡ Some id → without id xs ≡ drop 1 xs
without-front [] id d e = absurd (cc e)
without-front (x ∷ xs) id d e = without-first x id xs (subst (λ j. (x == j) ≡ true) (some_inj e) (equal_test x)) d.0
