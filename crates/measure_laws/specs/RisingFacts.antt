-- Lists of keys that strictly rise, as finite sets: a key is put in its place, and two with the same members are equal.
use Rattle.std.proofs.Common.{◌≡◌, ◌≤◌, ◌<◌, ◌+◌, ◌∙◌, ℕ, zero, suc, List, [], ◌∷◌, map, length, get_or, Bool, true, false, cond, ◌||◌, ◌&&◌, refl, sym, ap, subst, arith, Some, None}
use mathlib.Core.Bool.{true≢false}
use Rattle.std.specs.Prelude.{Option, T}
use Rattle.std.specs.declared.cmp.Ordering.{Ordering}
use Rattle.std.specs.declared.cmp.Ordering.TheVariants.{Less, Equal, Greater}
use Rattle.std.specs.BTreeSet.{insert_key}
use Rattle.std.specs.Cmp.{IsTotalOrder}
use Rattle.std.specs.FinMap.{IsAntisymmetric}
use Rattle.std.specs.FinMap.Entries.{below_all, find, is_sorted, same_entries}
use Rattle.std.specs.List.{AllByRecursion, AllWithin, HoldsAt, insert, list_any}
use Rattle.std.specs.List.Sorted.{IsNonDecreasingBy, IsStrictlySortedBy}
use Rattle.std.specs.Ordering.{eq_by_cmp, is_lt, match_ordering, ordering_index, ordering_reverse}
use Rattle.std.proofs.lemmas.List.Sorted.{searchable_from_sorted}

module _ {K : Type 0} {cmp : K → K → Ordering} (o : IsTotalOrder cmp) where
  above_from_below : (x y : K) → cmp x y ≡ Less → cmp y x ≡ Greater
  above_from_below x y e = o.antisymm y x ∙ ap ordering_reverse e

  pub below_from_above : (x y : K) → cmp x y ≡ Greater → cmp y x ≡ Less
  below_from_above x y e = o.antisymm y x ∙ ap ordering_reverse e

  pub less_trans : (x y : K) (ys : List K) → cmp x y ≡ Less → AllByRecursion (λ z. cmp y z ≡ Less) ys → AllByRecursion (λ z. cmp x z ≡ Less) ys
  less_trans x y [] h t = tt
  less_trans x y (z ∷ zs) h t = (o.trans x y z h t.0, less_trans x y zs h t.1)

  all_insert : (P : K → Type 0) (xs : List K) (k : K) → P k → AllByRecursion P xs → AllByRecursion P (insert_key cmp xs k)
  all_insert P [] k one all = (one, tt)
  all_insert P (x ∷ xs) k one all = by (cmp k x) (all_insert P xs k one all.1)
    where
      by : (r : Ordering) → AllByRecursion P (insert_key cmp xs k) → AllByRecursion P (match_ordering r (k ∷ x ∷ xs) (x ∷ xs) (x ∷ insert_key cmp xs k))
      by Less more = (one, all)
      by Equal more = all
      by Greater more = (all.0, more)

  -- with a key put in its place the keys still rise
  pub rises-insert_key : (xs : List K) (k : K) → IsStrictlySortedBy cmp xs → IsStrictlySortedBy cmp (insert_key cmp xs k)
  unfolding IsStrictlySortedBy
  rises-insert_key [] k h = (tt, tt)
  rises-insert_key (x ∷ xs) k h = by (cmp k x) refl (rises-insert_key xs k h.1)
    where
      by : (r : Ordering) → cmp k x ≡ r → IsStrictlySortedBy cmp (insert_key cmp xs k) → IsStrictlySortedBy cmp (match_ordering r (k ∷ x ∷ xs) (x ∷ xs) (x ∷ insert_key cmp xs k))
      by Less e more = ((e, less_trans k x xs e h.0), h)
      by Equal e more = h
      by Greater e more = (all_insert (λ y. cmp x y ≡ Less) xs k (below_from_above k x e) h.0, more)

  all_at : (P : K → Type 0) (xs : List K) (i : ℕ) (d : K) → AllByRecursion P xs → i < length xs → P (get_or xs i d)
  all_at P [] i d all h = absurd (omega arith)
  all_at P (x ∷ xs) zero d all h = all.0
  all_at P (x ∷ xs) (suc i) d all h = all_at P xs i d all.1 (omega arith)

  -- an earlier key is below a later one
  pub rising_at : (xs : List K) (i j : ℕ) (d : K) → IsStrictlySortedBy cmp xs → i < j → j < length xs → cmp (get_or xs i d) (get_or xs j d) ≡ Less
  unfolding IsStrictlySortedBy
  rising_at [] i j d up lt h = absurd (omega arith)
  rising_at (x ∷ xs) i zero d up lt h = absurd (omega arith)
  rising_at (x ∷ xs) zero (suc j) d up lt h = all_at (λ y. cmp x y ≡ Less) xs j d up.0 (omega arith)
  rising_at (x ∷ xs) (suc i) (suc j) d up lt h = rising_at xs i j d up.1 (omega arith) (omega arith)

  -- what a binary search asks of a list
  pub searchable : (xs : List K) (k : K) → IsStrictlySortedBy cmp xs → IsNonDecreasingBy (λ y. ordering_index (cmp y k)) xs
  searchable xs k up =
      searchable_from_sorted o (λ y. y) xs k
      (λ i d low high. ap is_lt (above_from_below _ _ (rising_at xs i (i + 1) d up (omega arith) (omega arith))))

  -- the place that a binary search gives is the place in the order
  pub insert_at_place : (xs : List K) (i : ℕ) (k : K) → i ≤ length xs → AllWithin (λ y. cmp y k ≡ Less) xs 0 i → AllWithin (λ y. cmp y k ≡ Greater) xs i (length xs)
      → insert xs i k ≡ insert_key cmp xs k
  insert_at_place [] zero k le below above = refl
  insert_at_place [] (suc i) k le below above = absurd (omega arith)
  insert_at_place (x ∷ xs) zero k le below above =
      let e : cmp k x ≡ Less = below_from_above x k (above 0 x (omega arith) (omega arith)) in
      ap (λ r. match_ordering r (k ∷ x ∷ xs) (x ∷ xs) (x ∷ insert_key cmp xs k)) (sym e)
  insert_at_place (x ∷ xs) (suc i) k le below above =
      let e : cmp k x ≡ Greater = above_from_below x k (below 0 x (omega arith) (omega arith)) in
      let rest : insert xs i k ≡ insert_key cmp xs k =
      insert_at_place xs i k (omega arith) (λ j d low high. below (suc j) d (omega arith) (omega arith)) (λ j d low high. above (suc j) d (omega arith) (omega arith)) in
      ap (λ l. x ∷ l) rest ∙ ap (λ r. match_ordering r (k ∷ x ∷ xs) (x ∷ xs) (x ∷ insert_key cmp xs k)) (sym e)

  abbrev mark : K → K × Unit {0}
  mark k = (k, tt)

  below : (x : K) (xs : List K) → AllByRecursion (λ y. cmp x y ≡ Less) xs → T (below_all cmp x (map mark xs))
  below x [] h = tt
  below x (y ∷ ys) h = subst (λ r. T (is_lt r && below_all cmp x (map mark ys))) (sym h.0) (below x ys h.1)

  both : (a b : Bool) → T a → T b → T (a && b)
  both true b x y = y
  both false b x y = elim x [ ]

  sorted_marks : (xs : List K) → IsStrictlySortedBy cmp xs → T (is_sorted cmp (map mark xs))
  unfolding IsStrictlySortedBy
  sorted_marks [] h = tt
  sorted_marks (x ∷ xs) h = both _ _ (below x xs h.0) (sorted_marks xs h.1)

  abbrev marked : Bool → Option (Unit {0})
  marked b = cond b (Some tt) None

  find_mark : (q : K) (xs : List K) → find cmp q (map mark xs) ≡ marked (list_any (eq_by_cmp cmp q) xs)
  find_mark q [] = refl
  find_mark q (x ∷ xs) = by (eq_by_cmp cmp q x) (find_mark q xs)
    where
      by : (b : Bool) → find cmp q (map mark xs) ≡ marked (list_any (eq_by_cmp cmp q) xs)
          → cond b (Some tt) (find cmp q (map mark xs)) ≡ marked (b || list_any (eq_by_cmp cmp q) xs)
      by true h = refl
      by false h = h

  unmarked : (xs : List K) → map (λ (e : K × Unit {0}). e.0) (map mark xs) ≡ xs
  unmarked [] = refl
  unmarked (x ∷ xs) = ap (λ l. x ∷ l) (unmarked xs)

  module _ (exact : IsAntisymmetric cmp) where
    -- rising lists with the same members are equal
    pub same_rising : (xs ys : List K) → IsStrictlySortedBy cmp xs → IsStrictlySortedBy cmp ys
        → ((q : K) → list_any (eq_by_cmp cmp q) xs ≡ list_any (eq_by_cmp cmp q) ys) → xs ≡ ys
    same_rising xs ys up_xs up_ys same =
        sym (unmarked xs)
        ∙ ap (map (λ (e : K × Unit {0}). e.0)) (same_entries cmp o exact _ _ (sorted_marks xs up_xs) (sorted_marks ys up_ys)
        (λ q. find_mark q xs ∙ ap (λ b. marked b) (same q) ∙ sym (find_mark q ys)))
        ∙ unmarked ys

    -- a test finds a key among the keys with one more exactly if it finds that one or finds one among the keys
    pub any-insert_key : (t : K → Bool) (xs : List K) (k : K) → list_any t (insert_key cmp xs k) ≡ (t k || list_any t xs)
    any-insert_key t [] k = refl
    any-insert_key t (x ∷ xs) k = by (cmp k x) refl (any-insert_key t xs k)
      where
        swap_or : (a b c d : Bool) → d ≡ (b || c) → (a || d) ≡ (b || (a || c))
        swap_or true true c d e = refl
        swap_or true false c d e = refl
        swap_or false b c d e = e

        twice : (a b c : Bool) → a ≡ b → (b || c) ≡ (a || (b || c))
        twice true true c e = refl
        twice true false c e = absurd (true≢false e)
        twice false b c e = refl

        by : (r : Ordering) → cmp k x ≡ r → list_any t (insert_key cmp xs k) ≡ (t k || list_any t xs)
            → list_any t (match_ordering r (k ∷ x ∷ xs) (x ∷ xs) (x ∷ insert_key cmp xs k)) ≡ (t k || list_any t (x ∷ xs))
        by Less e more = refl
        by Equal e more = twice (t k) (t x) (list_any t xs) (ap t (exact k x e))
        by Greater e more = swap_or (t x) (t k) (list_any t xs) (list_any t (insert_key cmp xs k)) more

    -- a key that is there is not put in again
    pub insert_key-present : (xs : List K) (i : ℕ) (k : K) → IsStrictlySortedBy cmp xs → i < length xs → HoldsAt (λ y. cmp y k ≡ Equal) xs i → insert_key cmp xs k ≡ xs
    unfolding IsStrictlySortedBy
    insert_key-present [] i k up lt at = absurd (omega arith)
    insert_key-present (x ∷ xs) zero k up lt at =
        let e : cmp k x ≡ Equal = o.antisymm k x ∙ ap ordering_reverse (at x) in
        ap (λ r. match_ordering r (k ∷ x ∷ xs) (x ∷ xs) (x ∷ insert_key cmp xs k)) e
    insert_key-present (x ∷ xs) (suc i) k up lt at =
        let same : get_or xs i x ≡ k = exact _ _ (at x) in
        let less : cmp x (get_or xs i x) ≡ Less = all_at (λ y. cmp x y ≡ Less) xs i x up.0 (omega arith) in
        let e : cmp k x ≡ Greater = above_from_below x k (subst (λ (y : K). cmp x y ≡ Less) same less) in
        ap (λ r. match_ordering r (k ∷ x ∷ xs) (x ∷ xs) (x ∷ insert_key cmp xs k)) e
        ∙ ap (λ l. x ∷ l) (insert_key-present xs i k up.1 (omega arith) at)
