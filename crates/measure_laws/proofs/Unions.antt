-- The union of two rising lists, by one pass over both, and the different numbers of a list that was put in order.
use Rattle.std.proofs.Common.{◌≡◌, ◌<◌, ◌+◌, ◌∙◌, ℕ, List, [], ◌∷◌, ◌++◌, Bool, true, false, cond, ◌||◌, drop, get_or, length, eqb, eq-eqb, append_assoc, refl, sym, ap, subst}
use mathlib.Core.Bool.{true≢false}
use Rattle.std.specs.declared.cmp.Ordering.{Ordering}
use Rattle.std.specs.declared.cmp.Ordering.TheVariants.{Less, Equal, Greater}
use Rattle.std.specs.Cmp.{nat_cmp_is, nat_cmp_total}
use Rattle.std.specs.FinMap.{nat_cmp-IsAntisymmetric}
use Rattle.std.specs.List.{AllByRecursion, dedup, dedup_from, list_any}
use Rattle.std.specs.List.Sorted.{IsPermutation, IsSorted, IsStrictlySortedBy}
use Rattle.std.specs.Ordering.{eq_by_cmp, is_eq, match_ordering, nat_cmp}
use Rattle.std.proofs.lemmas.Bool.{eqb-true}
use Rattle.std.proofs.lemmas.List.{drop_more}
use Rattle.std.proofs.lemmas.List.Folds.{list_any-append}
use Rattle.std.proofs.lemmas.List.Kept.{IsStrictlySortedBy-dedup}
use Rattle.std.proofs.lemmas.List.Sorted.{list_any-IsPermutation}
use Rattle.measure_laws.specs.IdFacts.{any-different, same}
use Rattle.measure_laws.specs.Ids.{different, rises-different}
use Rattle.measure_laws.specs.RisingFacts.{below_from_above, less_trans}

-- x and a list of the numbers behind it, put among the numbers ys
abbrev pub among : ℕ → (List ℕ → List ℕ) → List ℕ → List ℕ
among x rest [] = x ∷ rest []
among x rest (y ∷ ys) = match_ordering (nat_cmp x y) (x ∷ rest (y ∷ ys)) (x ∷ rest ys) (y ∷ among x rest ys)

-- the lesser head of two lists comes first; of two equal ones there is one
abbrev pub union : List ℕ → List ℕ → List ℕ
union [] ys = ys
union (x ∷ xs) ys = among x (union xs) ys

-- ---- what is in it

or_assoc : (a b c : Bool) → (a || (b || c)) ≡ ((a || b) || c)
or_assoc true b c = refl
or_assoc false b c = refl

or_twice : (a b c d : Bool) → a ≡ c → (a || (b || d)) ≡ ((a || b) || (c || d))
or_twice true b c d e = refl
or_twice false b true d e = absurd (true≢false (sym e))
or_twice false b false d e = refl

or_swap : (u c d : Bool) → (c || (u || d)) ≡ (u || (c || d))
or_swap true true d = refl
or_swap true false d = refl
or_swap false c d = refl

module _ (t : ℕ → Bool) where
  any-among : (x : ℕ) (xs : List ℕ) → ((ys : List ℕ) → list_any t (union xs ys) ≡ (list_any t xs || list_any t ys)) → (ys : List ℕ) → list_any t (among x (union xs) ys) ≡ ((t x || list_any t xs) || list_any t ys)
  any-among x xs rest [] = ap (λ b. t x || b) (rest []) ∙ or_assoc (t x) (list_any t xs) false
  any-among x xs rest (y ∷ ys) = by (nat_cmp x y) refl (any-among x xs rest ys)
    where
      by : (r : Ordering) → nat_cmp x y ≡ r → list_any t (among x (union xs) ys) ≡ ((t x || list_any t xs) || list_any t ys)
          → list_any t (match_ordering r (x ∷ union xs (y ∷ ys)) (x ∷ union xs ys) (y ∷ among x (union xs) ys)) ≡ ((t x || list_any t xs) || (t y || list_any t ys))
      by Less e more = ap (λ b. t x || b) (rest (y ∷ ys)) ∙ or_assoc (t x) (list_any t xs) (t y || list_any t ys)
      by Equal e more = ap (λ b. t x || b) (rest ys) ∙ or_twice (t x) (list_any t xs) (t y) (list_any t ys) (ap t (nat_cmp-IsAntisymmetric x y e))
      by Greater e more = ap (λ b. t y || b) more ∙ or_swap (t x || list_any t xs) (t y) (list_any t ys)

  any-union : (xs ys : List ℕ) → list_any t (union xs ys) ≡ (list_any t xs || list_any t ys)
  any-union [] ys = refl
  any-union (x ∷ xs) ys = any-among x xs (any-union xs) ys

  any-dedup_from : (k : ℕ) (xs : List ℕ) → list_any t (dedup_from eqb k xs) ≡ (t k || list_any t xs)
  any-dedup_from k [] = refl
  any-dedup_from k (x ∷ xs) = by (eqb x k) refl (any-dedup_from k xs) (any-dedup_from x xs)
    where
      same_twice : (a b c : Bool) → a ≡ b → (a || c) ≡ (a || (b || c))
      same_twice true b c e = refl
      same_twice false true c e = absurd (true≢false (sym e))
      same_twice false false c e = refl

      by : (b : Bool) → eqb x k ≡ b → list_any t (dedup_from eqb k xs) ≡ (t k || list_any t xs) → list_any t (dedup_from eqb x xs) ≡ (t x || list_any t xs)
          → list_any t (cond b (dedup_from eqb k xs) (k ∷ dedup_from eqb x xs)) ≡ (t k || (t x || list_any t xs))
      by true e same_key other = same_key ∙ same_twice (t k) (t x) (list_any t xs) (sym (ap t (eqb-true x k e)))
      by false e same_key other = ap (λ b. t k || b) other

  any-dedup : (xs : List ℕ) → list_any t (dedup eqb xs) ≡ list_any t xs
  any-dedup [] = refl
  any-dedup (x ∷ xs) = any-dedup_from x xs

-- ---- it rises

module _ (P : ℕ → Type 0) where
  all-among : (x : ℕ) (xs : List ℕ) → P x → ((ys : List ℕ) → AllByRecursion P ys → AllByRecursion P (union xs ys)) → (ys : List ℕ) → AllByRecursion P ys → AllByRecursion P (among x (union xs) ys)
  all-among x xs one rest [] all = (one, rest [] tt)
  all-among x xs one rest (y ∷ ys) all = by (nat_cmp x y) (all-among x xs one rest ys all.1)
    where
      by : (r : Ordering) → AllByRecursion P (among x (union xs) ys) → AllByRecursion P (match_ordering r (x ∷ union xs (y ∷ ys)) (x ∷ union xs ys) (y ∷ among x (union xs) ys))
      by Less more = (one, rest (y ∷ ys) all)
      by Equal more = (one, rest ys all.1)
      by Greater more = (all.0, more)

  all-union : (xs ys : List ℕ) → AllByRecursion P xs → AllByRecursion P ys → AllByRecursion P (union xs ys)
  all-union [] ys none all = all
  all-union (x ∷ xs) ys some all = all-among x xs some.0 (λ ys all. all-union xs ys some.1 all) ys all

rises-among : (x : ℕ) (xs : List ℕ) → AllByRecursion (λ z. nat_cmp x z ≡ Less) xs → ((ys : List ℕ) → IsStrictlySortedBy nat_cmp ys → IsStrictlySortedBy nat_cmp (union xs ys)) → (ys : List ℕ) → IsStrictlySortedBy nat_cmp ys → IsStrictlySortedBy nat_cmp (among x (union xs) ys)
unfolding IsStrictlySortedBy
rises-among x xs above rest [] up = (all-union (λ z. nat_cmp x z ≡ Less) xs [] above tt, rest [] tt)
rises-among x xs above rest (y ∷ ys) up = by (nat_cmp x y) refl (rises-among x xs above rest ys up.1)
  where
    by : (r : Ordering) → nat_cmp x y ≡ r → IsStrictlySortedBy nat_cmp (among x (union xs) ys) → IsStrictlySortedBy nat_cmp (match_ordering r (x ∷ union xs (y ∷ ys)) (x ∷ union xs ys) (y ∷ among x (union xs) ys))
    by Less e more = (all-union (λ z. nat_cmp x z ≡ Less) xs (y ∷ ys) above (e, less_trans nat_cmp_total x y ys e up.0), rest (y ∷ ys) up)
    by Equal e more =
        let same_head : x ≡ y = nat_cmp-IsAntisymmetric x y e in
        let behind : AllByRecursion (λ z. nat_cmp x z ≡ Less) ys = subst (λ (k : ℕ). AllByRecursion (λ z. nat_cmp k z ≡ Less) ys) (sym same_head) up.0 in
        (all-union (λ z. nat_cmp x z ≡ Less) xs ys above behind, rest ys up.1)
    by Greater e more =
        let less : nat_cmp y x ≡ Less = below_from_above nat_cmp_total x y e in
        (all-among (λ z. nat_cmp y z ≡ Less) x xs less (λ zs all. all-union (λ z. nat_cmp y z ≡ Less) xs zs (less_trans nat_cmp_total y x xs less above) all) ys up.0, more)

rises-union : (xs ys : List ℕ) → IsStrictlySortedBy nat_cmp xs → IsStrictlySortedBy nat_cmp ys → IsStrictlySortedBy nat_cmp (union xs ys)
unfolding IsStrictlySortedBy
rises-union [] ys up_xs up_ys = up_ys
rises-union (x ∷ xs) ys up_xs up_ys = rises-among x xs up_xs.0 (λ zs up. rises-union xs zs up_xs.1 up) ys up_ys

-- the union of two rising lists has the different numbers of both
pub union_is : (xs ys : List ℕ) → IsStrictlySortedBy nat_cmp xs → IsStrictlySortedBy nat_cmp ys → union xs ys ≡ different (xs ++ ys)
union_is xs ys up_xs up_ys =
    same (union xs ys) (different (xs ++ ys)) (rises-union xs ys up_xs up_ys) (rises-different (xs ++ ys))
    (λ q. any-union (eq_by_cmp nat_cmp q) xs ys ∙ sym (any-different (eq_by_cmp nat_cmp q) (xs ++ ys) ∙ list_any-append (eq_by_cmp nat_cmp q) xs ys))

-- ---- the steps of the pass

module _ (xs ys : List ℕ) (i j : ℕ) (some_x : i < length xs) (some_y : j < length ys) where
  opened : union (drop i xs) (drop j ys) ≡ union (get_or xs i 0 ∷ drop (i + 1) xs) (get_or ys j 0 ∷ drop (j + 1) ys)
  opened = λ k. union (drop_more xs i 0 some_x k) (drop_more ys j 0 some_y k)

  by_order : (r : Ordering) → r ≡ nat_cmp (get_or xs i 0) (get_or ys j 0)
      → union (drop i xs) (drop j ys) ≡ match_ordering r (get_or xs i 0 ∷ union (drop (i + 1) xs) (get_or ys j 0 ∷ drop (j + 1) ys)) (get_or xs i 0 ∷ union (drop (i + 1) xs) (drop (j + 1) ys)) (get_or ys j 0 ∷ union (get_or xs i 0 ∷ drop (i + 1) xs) (drop (j + 1) ys))
  by_order r e =
      opened
      ∙ ap (λ r. match_ordering r (get_or xs i 0 ∷ union (drop (i + 1) xs) (get_or ys j 0 ∷ drop (j + 1) ys)) (get_or xs i 0 ∷ union (drop (i + 1) xs) (drop (j + 1) ys)) (get_or ys j 0 ∷ union (get_or xs i 0 ∷ drop (i + 1) xs) (drop (j + 1) ys))) (sym e)

  pub union_less : get_or xs i 0 < get_or ys j 0 → union (drop i xs) (drop j ys) ≡ get_or xs i 0 ∷ union (drop (i + 1) xs) (drop j ys)
  union_less h = by_order Less (nat_cmp_is (get_or xs i 0) (get_or ys j 0) Less h) ∙ ap (λ l. get_or xs i 0 ∷ union (drop (i + 1) xs) l) (sym (drop_more ys j 0 some_y))

  pub union_equal : get_or xs i 0 ≡ get_or ys j 0 → union (drop i xs) (drop j ys) ≡ get_or xs i 0 ∷ union (drop (i + 1) xs) (drop (j + 1) ys)
  union_equal h = by_order Equal (nat_cmp_is (get_or xs i 0) (get_or ys j 0) Equal h)

  pub union_greater : get_or ys j 0 < get_or xs i 0 → union (drop i xs) (drop j ys) ≡ get_or ys j 0 ∷ union (drop i xs) (drop (j + 1) ys)
  union_greater h = by_order Greater (nat_cmp_is (get_or xs i 0) (get_or ys j 0) Greater h) ∙ ap (λ l. get_or ys j 0 ∷ union l (drop (j + 1) ys)) (sym (drop_more xs i 0 some_x))

-- a number goes from what is left to what is done
pub passed : (done left rest all : List ℕ) (low : ℕ) → done ++ left ≡ all → left ≡ low ∷ rest → (done ++ low ∷ []) ++ rest ≡ all
passed done left rest all low whole e = append_assoc done (low ∷ []) rest ∙ ap (λ l. done ++ l) (sym e) ∙ whole

pub union-nil : (xs : List ℕ) → union xs [] ≡ xs
union-nil [] = refl
union-nil (x ∷ xs) = ap (λ l. x ∷ l) (union-nil xs)

-- ---- a list that was put in order

tie : (x y : ℕ) → eqb x y ≡ eq_by_cmp nat_cmp x y
tie x y = by (eqb x y) refl
  where
    unlike : (r : Ordering) → eqb x y ≡ false → nat_cmp x y ≡ r → false ≡ is_eq r
    unlike Less e o = refl
    unlike Equal e o = absurd (true≢false (sym (eq-eqb x y (nat_cmp-IsAntisymmetric x y o)) ∙ e))
    unlike Greater e o = refl

    by : (b : Bool) → eqb x y ≡ b → b ≡ eq_by_cmp nat_cmp x y
    by true e = ap is_eq (nat_cmp_is x y Equal (eqb-true x y e))
    by false e = unlike (nat_cmp x y) e refl

pub ordered_is : (xs sorted : List ℕ) → IsPermutation xs sorted → IsSorted nat_cmp sorted → dedup eqb sorted ≡ different xs
ordered_is xs sorted moved up =
    same (dedup eqb sorted) (different xs) (IsStrictlySortedBy-dedup nat_cmp_total tie sorted up) (rises-different xs)
    (λ q. any-dedup (eq_by_cmp nat_cmp q) sorted ∙ sym (list_any-IsPermutation (eq_by_cmp nat_cmp q) xs sorted moved) ∙ sym (any-different (eq_by_cmp nat_cmp q) xs))
