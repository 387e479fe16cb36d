-- Rows of one key before rows of greater ones, and rows in another order.
use Rattle.std.proofs.Common.{◌≡◌, ◌≤◌, ◌<◌, ◌+◌, ◌∙◌, ℕ, zero, suc, List, [], ◌∷◌, ◌++◌, map, length, get_or, take, drop, Bool, true, false, cond, ◌&&◌, refl, sym, ap, arith}
use mathlib.Core.Bool.{true≢false}
use Rattle.std.specs.Prelude.{not}
use Rattle.std.specs.declared.cmp.Ordering.{Ordering}
use Rattle.std.specs.declared.cmp.Ordering.TheVariants.{Less, Equal, Greater}
use Rattle.std.specs.BTreeSet.{insert_key}
use Rattle.std.specs.Cmp.{IsTotalOrder, tied_itself}
use Rattle.std.specs.List.{AllByRecursion, filter, prefix_len}
use Rattle.std.specs.List.Sorted.{IsPermutation, ties}
use Rattle.std.specs.Ordering.{eq_by_cmp, is_eq, is_lt, match_ordering, ordering_reverse}
use Rattle.std.proofs.lemmas.List.{take-append-drop}
use Rattle.std.proofs.lemmas.List.Elements.{recursion_from_All}
use Rattle.std.proofs.lemmas.List.Sorted.{IsPermutation-map}
use Rattle.aggregation.specs.Groups.{distinct, grouped, values_at}
use Rattle.aggregation.specs.Laws.{IsExact}
use Rattle.aggregation.proofs.DistinctFacts.{any-permutation}
use Rattle.aggregation.proofs.GroupFacts.{distinct_alike, itself}

map_alike : {X Y : Type 0} (f g : X → Y) (xs : List X) → AllByRecursion (λ x. f x ≡ g x) xs → map f xs ≡ map g xs
map_alike f g [] h = refl
map_alike f g (x ∷ xs) h = let rest = map_alike f g xs h.1 in λ i. h.0 i ∷ rest i

all_weaker : {X : Type 0} (P Q : X → Type 0) → ((x : X) → P x → Q x) → (xs : List X) → AllByRecursion P xs → AllByRecursion Q xs
all_weaker P Q f [] h = tt
all_weaker P Q f (x ∷ xs) h = (f x h.0, all_weaker P Q f xs h.1)

module _ {K R V M : Type 0} {cmp : K → K → Ordering} (o : IsTotalOrder cmp) (exact : IsExact cmp) (key : R → K) (value : R → V) (combine : List V → M) where
  all_insert : (P : K → Type 0) (xs : List K) (k : K) → P k → AllByRecursion P xs → AllByRecursion P (insert_key cmp xs k)
  all_insert P [] k one all = (one, tt)
  all_insert P (x ∷ xs) k one all = by (cmp k x) (all_insert P xs k one all.1)
    where
      by : (r : Ordering) → AllByRecursion P (insert_key cmp xs k) → AllByRecursion P (match_ordering r (k ∷ x ∷ xs) (x ∷ xs) (x ∷ insert_key cmp xs k))
      by Less more = (one, all)
      by Equal more = all
      by Greater more = (all.0, more)

  all_keys : (P : K → Type 0) (rows : List R) → AllByRecursion (λ r. P (key r)) rows → AllByRecursion P (distinct cmp (map key rows))
  all_keys P [] h = tt
  all_keys P (r ∷ rows) h = all_insert P (distinct cmp (map key rows)) (key r) h.0 (all_keys P rows h.1)

  insert_front : (ks : List K) (k : K) → AllByRecursion (λ y. cmp k y ≡ Less) ks → insert_key cmp ks k ≡ k ∷ ks
  insert_front [] k h = refl
  insert_front (y ∷ ys) k h = ap (λ r. match_ordering r (k ∷ y ∷ ys) (y ∷ ys) (y ∷ insert_key cmp ys k)) h.0

  module _ (k : K) (tail : List R) (above : AllByRecursion (λ r. cmp k (key r) ≡ Less) tail) where
    abbrev IsOf : List R → Type 0
    IsOf run = AllByRecursion (λ r. key r ≡ k) run

    keys_of_run : (first : R) (run : List R) → IsOf (first ∷ run) → distinct cmp (map key ((first ∷ run) ++ tail)) ≡ k ∷ distinct cmp (map key tail)
    keys_of_run first [] h =
        ap (insert_key cmp (distinct cmp (map key tail))) h.0 ∙ insert_front (distinct cmp (map key tail)) k (all_keys (λ y. cmp k y ≡ Less) tail above)
    keys_of_run first (r ∷ run) h =
        let ks = distinct cmp (map key tail) in
        let rest = keys_of_run r run h.1 in
        (λ i. insert_key cmp (rest i) (h.0 i)) ∙ ap (λ o. match_ordering o (k ∷ k ∷ ks) (k ∷ ks) (k ∷ insert_key cmp ks k)) (tied_itself o k)

    none_at : (rows : List R) → AllByRecursion (λ r. cmp k (key r) ≡ Less) rows → values_at cmp key value rows k ≡ []
    none_at [] h = refl
    none_at (r ∷ rows) h =
        let others = filter (λ r. eq_by_cmp cmp k (key r)) rows in
        ap (λ b. map value (cond b (r ∷ others) others)) (ap is_eq h.0) ∙ none_at rows h.1

    -- the values of the key are those of the run
    values_of_run : (run : List R) → IsOf run → values_at cmp key value (run ++ tail) k ≡ map value run
    values_of_run [] h = none_at tail above
    values_of_run (r ∷ run) h =
        let others = filter (λ r. eq_by_cmp cmp k (key r)) (run ++ tail) in
        ap (λ b. map value (cond b (r ∷ others) others)) (ap (eq_by_cmp cmp k) h.0 ∙ itself o exact k) ∙ ap (λ l. value r ∷ l) (values_of_run run h.1)

    -- those of a greater key are those of the others
    values_after : (q : K) → cmp k q ≡ Less → (run : List R) → IsOf run → values_at cmp key value (run ++ tail) q ≡ values_at cmp key value tail q
    values_after q less [] h = refl
    values_after q less (r ∷ run) h =
        let others = filter (λ r. eq_by_cmp cmp q (key r)) (run ++ tail) in
        let other : eq_by_cmp cmp q (key r) ≡ false = ap (eq_by_cmp cmp q) h.0 ∙ ap is_eq (o.antisymm q k ∙ ap ordering_reverse less) in
        ap (λ b. map value (cond b (r ∷ others) others)) other ∙ values_after q less run h.1

    -- the groups of a run before rows of greater keys: its own, and theirs
    pub grouped-run : (first : R) (run : List R) → IsOf (first ∷ run)
        → grouped cmp key value combine ((first ∷ run) ++ tail) ≡ (k, combine (map value (first ∷ run))) ∷ grouped cmp key value combine tail
    grouped-run first run h =
        let rows = (first ∷ run) ++ tail in
        let cell = λ (rows : List R) (q : K). let pair : K × M = (q, combine (values_at cmp key value rows q)) in pair in
        let own = values_of_run (first ∷ run) h in
        let less = all_keys (λ y. cmp k y ≡ Less) tail above in
        let others = map_alike (cell rows) (cell tail) (distinct cmp (map key tail))
        (all_weaker (λ q. cmp k q ≡ Less) (λ q. cell rows q ≡ cell tail q) (λ q l. ap (λ vs. (q, combine vs)) (values_after q l (first ∷ run) h)) (distinct cmp (map key tail)) less) in
        ap (map (cell rows)) (keys_of_run first run h) ∙ (λ i. (k, combine (own i)) ∷ others i)

  -- rows in another order that leaves rows of one key in theirs have the same groups
  pub grouped-moved : (xs ys : List R) → IsPermutation xs ys → ((q : K) → filter (λ r. eq_by_cmp cmp q (key r)) ys ≡ filter (λ r. eq_by_cmp cmp q (key r)) xs)
      → grouped cmp key value combine ys ≡ grouped cmp key value combine xs
  grouped-moved xs ys moved same =
      let keys = distinct_alike o exact (map key ys) (map key xs) (λ q. sym (any-permutation (eq_by_cmp cmp q) (map key xs) (map key ys) (IsPermutation-map key xs ys moved))) in
      λ i. map (λ k. (k, combine (map value (same k i)))) (keys i)

  tie_test : (x r : R) → ties (λ a b. is_lt (cmp (key a) (key b))) x r ≡ eq_by_cmp cmp (key x) (key r)
  tie_test x r = by (cmp (key x) (key r)) (cmp (key r) (key x)) (o.antisymm (key r) (key x))
    where
      by : (a b : Ordering) → b ≡ ordering_reverse a → (not (is_lt a) && not (is_lt b)) ≡ is_eq a
      by Less b e = refl
      by Equal b e = ap (λ c. not (is_lt c)) e
      by Greater b e = ap (λ c. not (is_lt c)) e

  -- a stable sort leaves rows of one key in their order
  pub stable_keys : (xs ys : List R) → ((x : R) → filter (ties (λ a b. is_lt (cmp (key a) (key b))) x) ys ≡ filter (ties (λ a b. is_lt (cmp (key a) (key b))) x) xs)
      → (x : R) → filter (λ r. eq_by_cmp cmp (key x) (key r)) ys ≡ filter (λ r. eq_by_cmp cmp (key x) (key r)) xs
  stable_keys xs ys stable x = (λ i. filter (λ r. sym (tie_test x r) i) ys) ∙ stable x ∙ (λ i. filter (λ r. tie_test x r i) xs)

-- ---- the run at the front of rows in order

module _ {K R : Type 0} {cmp : K → K → Ordering} (o : IsTotalOrder cmp) (exact : IsExact cmp) (key : R → K) where
  -- rows in order: no later one has a smaller key
  abbrev pub IsUp : List R → Type 0
  IsUp [] = Unit {0}
  IsUp (r ∷ rows) = AllByRecursion (λ s. is_lt (cmp (key s) (key r)) ≡ false) rows × IsUp rows

  pub up_from_sorted : (rows : List R) → ((i j : ℕ) (d : R) → i ≤ j → j < length rows → is_lt (cmp (key (get_or rows j d)) (key (get_or rows i d))) ≡ false) → IsUp rows
  up_from_sorted [] far = tt
  up_from_sorted (r ∷ rows) far = (
    recursion_from_All (λ s. is_lt (cmp (key s) (key r)) ≡ false) rows (λ j d inside. far zero (suc j) d (omega arith) (omega arith)),
    up_from_sorted rows (λ i j d le inside. far (suc i) (suc j) d (omega arith) (omega arith)),
  )

  pub up-drop : (n : ℕ) (rows : List R) → IsUp rows → IsUp (drop n rows)
  up-drop zero rows up = up
  up-drop (suc n) [] up = tt
  up-drop (suc n) (r ∷ rows) up = up-drop n rows up.1

  module _ (same : R → Bool) (k : K) (tells : (r : R) → same r ≡ true → key r ≡ k) (holds : (r : R) → key r ≡ k → same r ≡ true) where
    front_has : (rows : List R) → AllByRecursion (λ r. key r ≡ k) (take (prefix_len same rows) rows)
    front_has [] = tt
    front_has (r ∷ rows) = by (same r) refl (front_has rows)
      where
        by : (b : Bool) → same r ≡ b → AllByRecursion (λ r. key r ≡ k) (take (prefix_len same rows) rows) → AllByRecursion (λ r. key r ≡ k) (take (cond b (1 + prefix_len same rows) 0) (r ∷ rows))
        by true e h = let one : 1 + prefix_len same rows ≡ suc (prefix_len same rows) = omega arith in rw one (tells r e, h)
        by false e h = tt

    greater : (r : R) → same r ≡ false → is_lt (cmp (key r) k) ≡ false → cmp k (key r) ≡ Less
    greater r e not_less = by (cmp (key r) k) refl not_less (o.antisymm k (key r))
      where
        by : (c : Ordering) → cmp (key r) k ≡ c → is_lt c ≡ false → cmp k (key r) ≡ ordering_reverse c → cmp k (key r) ≡ Less
        by Less q h a = absurd (true≢false h)
        by Equal q h a = absurd (true≢false (sym (holds r (exact (key r) k q)) ∙ e))
        by Greater q h a = a

    past : (r s : R) → cmp k (key r) ≡ Less → is_lt (cmp (key s) (key r)) ≡ false → cmp k (key s) ≡ Less
    past r s less not_less = by (cmp (key s) (key r)) refl not_less (o.antisymm (key r) (key s))
      where
        by : (c : Ordering) → cmp (key s) (key r) ≡ c → is_lt c ≡ false → cmp (key r) (key s) ≡ ordering_reverse c → cmp k (key s) ≡ Less
        by Less q h a = absurd (true≢false h)
        by Equal q h a = ap (cmp k) (exact (key s) (key r) q) ∙ less
        by Greater q h a = o.trans k (key r) (key s) less a

    rest_above : (rows : List R) → IsUp rows → AllByRecursion (λ r. is_lt (cmp (key r) k) ≡ false) rows → AllByRecursion (λ r. cmp k (key r) ≡ Less) (drop (prefix_len same rows) rows)
    rest_above [] up h = tt
    rest_above (r ∷ rows) up h = by (same r) refl (rest_above rows up.1 h.1)
      where
        by : (b : Bool) → same r ≡ b → AllByRecursion (λ r. cmp k (key r) ≡ Less) (drop (prefix_len same rows) rows)
            → AllByRecursion (λ r. cmp k (key r) ≡ Less) (drop (cond b (1 + prefix_len same rows) 0) (r ∷ rows))
        by true e more = let one : 1 + prefix_len same rows ≡ suc (prefix_len same rows) = omega arith in rw one more
        by false e more =
            let here = greater r e h.0 in
            (here, all_weaker (λ s. is_lt (cmp (key s) (key r)) ≡ false) (λ s. cmp k (key s) ≡ Less) (λ s. past r s here) rows up.0)

    -- the groups of rows in order, of which the first has the key: the group of the run at the front, and those of the rest
    pub grouped-front : {V M : Type 0} (value : R → V) (combine : List V → M) (first : R) (rows : List R) → IsUp (first ∷ rows) → key first ≡ k
        → grouped cmp key value combine (first ∷ rows)
        ≡ (k, combine (map value (take (prefix_len same (first ∷ rows)) (first ∷ rows)))) ∷ grouped cmp key value combine (drop (prefix_len same (first ∷ rows)) (first ∷ rows))
    grouped-front value combine first rows up is =
        let m = prefix_len same rows in
        let one : 1 + m ≡ suc m = omega arith in
        let n : prefix_len same (first ∷ rows) ≡ suc m = ap (λ b. cond b (1 + m) 0) (holds first is) ∙ one in
        let above = all_weaker (λ s. is_lt (cmp (key s) (key first)) ≡ false) (λ s. is_lt (cmp (key s) k) ≡ false) (λ s h. ap (λ x. is_lt (cmp (key s) x)) (sym is) ∙ h) rows up.0 in
        let split : first ∷ rows ≡ (first ∷ take m rows) ++ drop m rows = ap (λ l. first ∷ l) (sym (take-append-drop m rows)) in
        ap (grouped cmp key value combine) split
        ∙ grouped-run o exact key value combine k (drop m rows) (rest_above rows up.1 above) first (take m rows) (is, front_has rows)
        ∙ (λ i. (k, combine (map value (take (sym n i) (first ∷ rows)))) ∷ grouped cmp key value combine (drop (sym n i) (first ∷ rows)))

    pub first_counts : (first : R) (rows : List R) → key first ≡ k → 0 < prefix_len same (first ∷ rows)
    first_counts first rows is = rw (holds first is) (omega arith)
