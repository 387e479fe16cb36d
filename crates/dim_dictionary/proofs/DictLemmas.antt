-- What a look-up in a dictionary finds.
use Rattle.std.proofs.Common.{◌≡◌, ◌≤◌, ◌<◌, ◌+◌, ◌∙◌, ◌↔◌, ℕ, zero, suc, List, [], ◌∷◌, length, get_or, Bool, true, false, cond, refl, sym, ap, subst, arith, Some}
use mathlib.Core.Bool.{true≢false}
use borrow.Author.Tests.{ltb-true, ltb-false}
use lib.Dec.{ltb}
use Rattle.std.specs.declared.cmp.Ordering.{Ordering}
use Rattle.std.specs.declared.cmp.Ordering.TheVariants.{Less, Equal, Greater}
use Rattle.std.specs.List.{AllWithin, Contains, HoldsAt, count_by, list_any, slice_get}
use Rattle.std.specs.List.Sorted.{IsPartitionPoint, IsStrictlySortedBy}
use Rattle.std.specs.Ordering.{MatchOrdering, eq_by_cmp, is_eq, is_lt, nat_cmp, ordering_reverse}
use Rattle.std.proofs.lemmas.Cmp.{ranked}
use Rattle.std.proofs.lemmas.List.Folds.{Any-from_list_any, list_any-from_Any}
use Rattle.std.proofs.lemmas.List.Sums.{sum_by-cons}
use Rattle.std.proofs.lemmas.Option.{get_or_from_slice_get, slice_get-get_or, slice_get_within}
use Rattle.cube_val.specs.declared.val.Val.{Val}
use Rattle.cube_val.specs.Order.{val_cmp}
use Rattle.cube_val.specs.OrderLaws.{val_cmp_total}
use Rattle.cube_val.proofs.OrderFacts.{val_cmp_exact, val_cmp_same, val_eq_exact, val_eq_same}
use Rattle.measure_laws.specs.RisingFacts.{rising_at}
use Rattle.aggregation.specs.Groups.{distinct}
use Rattle.aggregation.proofs.GroupFacts.{any-distinct}

less_not_equal : {A : Type 0} → Less ≡ Equal → A
less_not_equal e = absurd (true≢false (sym (ap is_eq e)))

greater_not_equal : {A : Type 0} → Greater ≡ Equal → A
greater_not_equal e = absurd (true≢false (sym (ap is_eq e)))

pub found_from : (values : List Val) (v : Val) → Contains values v → list_any (eq_by_cmp val_cmp v) values ≡ true
found_from values v there = list_any-from_Any (eq_by_cmp val_cmp v) values (there.0, v, there.1, there.2, val_eq_same v v refl)

pub there_from : (values : List Val) (v : Val) → list_any (eq_by_cmp val_cmp v) values ≡ true → Contains values v
there_from values v found =
    let some = Any-from_list_any (eq_by_cmp val_cmp v) values found in
    let same : v ≡ some.1 = val_eq_exact v some.1 some.4 in
    subst (λ (w : Val). Contains values w) (sym same) (some.0, some.2, some.3)

-- the dictionary of values has the values
pub keeps_values : (values : List Val) (v : Val) → Contains (distinct val_cmp values) v ↔ Contains values v
keeps_values values v =
    let same = any-distinct val_cmp_total val_cmp_exact (eq_by_cmp val_cmp v) values in
    (λ there. there_from values v (sym same ∙ found_from (distinct val_cmp values) v there), λ there. there_from (distinct val_cmp values) v (same ∙ found_from values v there))

-- numbers are in the order of their values
pub keeps_order : (values : List Val) (i j : ℕ) (v w : Val) → IsStrictlySortedBy val_cmp values → slice_get values i ≡ Some v → slice_get values j ≡ Some w → nat_cmp i j ≡ val_cmp v w
keeps_order values i j v w up at_i at_j = by (nat_cmp i j) refl (ranked i j (nat_cmp i j) refl)
  where
    by : (r : Ordering) → nat_cmp i j ≡ r → MatchOrdering r (i < j) (i ≡ j) (j < i) → r ≡ val_cmp v w
    by Less e h =
        let first : get_or values i v ≡ v = get_or_from_slice_get values i v v at_i in
        let second : get_or values j v ≡ w = get_or_from_slice_get values j w v at_j in
        sym (sym (λ k. val_cmp (first k) (second k)) ∙ rising_at val_cmp_total values i j v up h (slice_get_within values j w at_j))
    by Equal e h =
        let same : v ≡ w = cc (at_i, at_j, ap (slice_get values) h) in
        sym (ap (λ x. val_cmp x w) same ∙ val_cmp_same w)
    by Greater e h =
        let first : get_or values i v ≡ v = get_or_from_slice_get values i v v at_i in
        let second : get_or values j v ≡ w = get_or_from_slice_get values j w v at_j in
        let less : val_cmp w v ≡ Less = sym (λ k. val_cmp (second k) (first k)) ∙ rising_at val_cmp_total values j i v up h (slice_get_within values i v at_i) in
        sym (val_cmp_total.antisymm v w ∙ ap ordering_reverse less)

-- what a search that finds a value says
pub found_value : (values : List Val) (i : ℕ) (v : Val) → i < length values → HoldsAt (λ y. val_cmp y v ≡ Equal) values i → slice_get values i ≡ Some v
found_value values i v lt at = slice_get-get_or values i v lt ∙ ap Some (val_cmp_exact _ _ (at v))

pub found_is_there : (values : List Val) (i : ℕ) (v : Val) → i < length values → HoldsAt (λ y. val_cmp y v ≡ Equal) values i → Contains values v
found_is_there values i v lt at = (i, lt, val_cmp_exact _ _ (at v))

-- what a search that finds none says
pub not_there : (values : List Val) (i : ℕ) (v : Val) → IsPartitionPoint (λ y. val_cmp y v ≡ Less) (λ y. val_cmp y v ≡ Greater) values i → Contains values v → ⊥
not_there values i v split there = by (ltb there.0 i) refl
  where
    same : val_cmp (get_or values there.0 v) v ≡ Equal
    same = ap (λ x. val_cmp x v) there.2 ∙ val_cmp_same v

    by : (b : Bool) → ltb there.0 i ≡ b → ⊥
    by true e = less_not_equal (sym (split.0 there.0 v (omega arith) (ltb-true there.0 i e)) ∙ same)
    by false e = greater_not_equal (sym (split.1 there.0 v (ltb-false there.0 i e) there.1) ∙ same)

-- how many pass a test that holds before a place and not from it on
pub count_to : {X : Type 0} (p : X → Bool) (xs : List X) (i : ℕ) → i ≤ length xs → AllWithin (λ y. p y ≡ true) xs 0 i → AllWithin (λ y. p y ≡ false) xs i (length xs) → count_by p xs ≡ i
count_to p [] i le pass fail = omega arith
count_to p (x ∷ xs) zero le pass fail =
    sum_by-cons (λ y. cond (p y) 1 0) x xs
    ∙ ap (λ b. cond b 1 0 + count_by p xs) (fail 0 x (omega arith) (omega arith))
    ∙ ap (λ n. 0 + n) (count_to p xs 0 (omega arith) (λ k d low high. absurd (omega arith)) (λ k d low high. fail (suc k) d (omega arith) (omega arith)))
count_to p (x ∷ xs) (suc i) le pass fail =
    let rest : count_by p xs ≡ i = count_to p xs i (omega arith) (λ k d low high. pass (suc k) d (omega arith) (omega arith)) (λ k d low high. fail (suc k) d (omega arith) (omega arith)) in
    let whole : count_by p (x ∷ xs) ≡ 1 + count_by p xs = sum_by-cons (λ y. cond (p y) 1 0) x xs ∙ ap (λ b. cond b 1 0 + count_by p xs) (pass 0 x (omega arith) (omega arith)) in
    omega arith

-- the place of a value that is there is how many are less
pub count_to_found : (values : List Val) (i : ℕ) (v : Val) → IsStrictlySortedBy val_cmp values → i < length values → HoldsAt (λ y. val_cmp y v ≡ Equal) values i
    → count_by (λ w. is_lt (val_cmp w v)) values ≡ i
count_to_found values i v up lt at =
    let same : get_or values i v ≡ v = val_cmp_exact _ _ (at v) in
    count_to (λ w. is_lt (val_cmp w v)) values i (omega arith)
    (λ k d low high. ap is_lt (below k d high)) (λ k d low high. above k d low high)
  where
    at_any : (d : Val) → get_or values i d ≡ v
    at_any d = val_cmp_exact _ _ (at d)

    below : (k : ℕ) (d : Val) → k < i → val_cmp (get_or values k d) v ≡ Less
    below k d high = ap (λ x. val_cmp (get_or values k d) x) (sym (at_any d)) ∙ rising_at val_cmp_total values k i d up high lt

    after : (k : ℕ) (d : Val) → i < k → k < length values → is_lt (val_cmp (get_or values k d) v) ≡ false
    after k d low high =
        let less : val_cmp v (get_or values k d) ≡ Less = ap (λ x. val_cmp x (get_or values k d)) (sym (at_any d)) ∙ rising_at val_cmp_total values i k d up low high in
        ap is_lt (val_cmp_total.antisymm (get_or values k d) v ∙ ap ordering_reverse less)

    above : (k : ℕ) (d : Val) → i ≤ k → k < length values → is_lt (val_cmp (get_or values k d) v) ≡ false
    above k d low high = by (ltb i k) refl
      where
        by : (b : Bool) → ltb i k ≡ b → is_lt (val_cmp (get_or values k d) v) ≡ false
        by true e = after k d (ltb-true i k e) high
        by false e = let same : k ≡ i = omega (arith, ltb-false i k e) in ap is_lt (ap (λ n. val_cmp (get_or values n d) v) same ∙ at d)

-- the place of a value that is not there is how many are less
pub count_to_place : (values : List Val) (i : ℕ) (v : Val) → i ≤ length values → IsPartitionPoint (λ y. val_cmp y v ≡ Less) (λ y. val_cmp y v ≡ Greater) values i
    → count_by (λ w. is_lt (val_cmp w v)) values ≡ i
count_to_place values i v le split =
    count_to (λ w. is_lt (val_cmp w v)) values i le (λ k d low high. ap is_lt (split.0 k d low high)) (λ k d low high. ap is_lt (split.1 k d low high))
