-- Facts about rows in groups.
use Rattle.std.proofs.Common.{◌≡◌, ℕ, List, [], ◌∷◌, ◌++◌, map, Bool, true, false, cond, ◌||◌, ◌&&◌, refl, sym, ap, ◌∙◌, subst}
use mathlib.Core.Bool.{true≢false}
use Rattle.std.specs.Prelude.{T, Some, None}
use Rattle.std.specs.declared.cmp.Ordering.{Ordering}
use Rattle.std.specs.declared.cmp.Ordering.TheVariants.{Less, Equal, Greater}
use Rattle.std.specs.Cmp.{IsTotalOrder, eq_by_cmp_equiv, tied_itself}
use Rattle.std.specs.BTreeSet.{insert_key}
use Rattle.std.specs.FinMap.Entries.{below_all, find, is_sorted, same_entries}
use Rattle.std.specs.List.Sorted.{IsStrictlySortedBy}
use Rattle.std.specs.List.{AllByRecursion, filter, flat_map, list_any}
use Rattle.std.specs.Ordering.{eq_by_cmp, is_eq, is_lt, match_ordering, ordering_reverse}
use Rattle.measure_laws.specs.Measures.{MeasureLaws}
use Rattle.aggregation.specs.Groups.{aggregate, distinct, gather, grouped, merged_all, values_at}
use Rattle.aggregation.specs.Laws.{IsExact}

-- ---- measures of rows that one of two tests picks

module _ {R I M : Type 0} {count : M → ℕ} {of : List I → M} {merge : M → M → M} (laws : MeasureLaws count of merge) (item : R → I) where
  left : (i : I) (ps qs us : List I) → merge (of ps) (of qs) ≡ of us → merge (of (i ∷ ps)) (of qs) ≡ of (i ∷ us)
  left i ps qs us h =
      ap (λ t. merge t (of qs)) (laws.joined (i ∷ []) ps) ∙ laws.associative (of (i ∷ [])) (of ps) (of qs)
      ∙ ap (merge (of (i ∷ []))) h ∙ sym (laws.joined (i ∷ []) us)

  right : (i : I) (ps qs us : List I) → merge (of ps) (of qs) ≡ of us → merge (of ps) (of (i ∷ qs)) ≡ of (i ∷ us)
  right i ps qs us h = laws.commutative (of ps) (of (i ∷ qs)) ∙ left i qs ps us (laws.commutative (of qs) (of ps) ∙ h)

  union_step : (p q : Bool) (r : R) (ps qs us : List R) → (p ≡ true → q ≡ false)
      → merge (of (map item ps)) (of (map item qs)) ≡ of (map item us)
      → merge (of (map item (cond p (r ∷ ps) ps))) (of (map item (cond q (r ∷ qs) qs))) ≡ of (map item (cond (p || q) (r ∷ us) us))
  union_step true true r ps qs us apart h = absurd (true≢false (apart refl))
  union_step true false r ps qs us apart h = left (item r) (map item ps) (map item qs) (map item us) h
  union_step false true r ps qs us apart h = right (item r) (map item ps) (map item qs) (map item us) h
  union_step false false r ps qs us apart h = h

  -- where no row passes both tests, the measures of what each picks merge to that of what either picks
  pub of_union : (p q : R → Bool) → ((r : R) → p r ≡ true → q r ≡ false) → (rows : List R)
      → merge (of (map item (filter p rows))) (of (map item (filter q rows))) ≡ of (map item (filter (λ r. p r || q r) rows))
  of_union p q apart [] = laws.neutral (of [])
  of_union p q apart (r ∷ rows) = union_step (p r) (q r) r _ _ _ (apart r) (of_union p q apart rows)

-- ---- tests

and-false : (b : Bool) → (b && false) ≡ false
and-false true = refl
and-false false = refl

and-true : (b : Bool) → (b && true) ≡ b
and-true true = refl
and-true false = refl

or-true : (b : Bool) → (b || true) ≡ true
or-true true = refl
or-true false = refl

filter-none : {X : Type 0} (xs : List X) → filter (λ x. false) xs ≡ []
filter-none [] = refl
filter-none (x ∷ xs) = filter-none xs

-- two tests that agree at each row pick the same rows
filter_alike : {R : Type 0} (p q : R → Bool) (rows : List R) → AllByRecursion (λ r. p r ≡ q r) rows → filter p rows ≡ filter q rows
filter_alike p q [] h = refl
filter_alike p q (r ∷ rows) h = let rest = filter_alike p q rows h.1 in λ i. cond (h.0 i) (r ∷ rest i) (rest i)

-- ---- keys in an order in which only equal keys tie

module _ {K : Type 0} {cmp : K → K → Ordering} (o : IsTotalOrder cmp) (exact : IsExact cmp) where
  pub tied : (x y : K) → eq_by_cmp cmp x y ≡ true → x ≡ y
  tied x y = by (cmp x y) refl
    where
      by : (r : Ordering) → cmp x y ≡ r → is_eq r ≡ true → x ≡ y
      by Less q h = absurd (true≢false (sym h))
      by Equal q h = exact x y q
      by Greater q h = absurd (true≢false (sym h))

  pub itself : (x : K) → eq_by_cmp cmp x x ≡ true
  itself x = ap is_eq (tied_itself o x)

  swapped : (x y : K) → eq_by_cmp cmp x y ≡ eq_by_cmp cmp y x
  swapped x y = (eq_by_cmp_equiv o).symm x y

  -- the keys strictly rise
  less_trans : (x y : K) (ys : List K) → cmp x y ≡ Less → AllByRecursion (λ z. cmp y z ≡ Less) ys → AllByRecursion (λ z. cmp x z ≡ Less) ys
  less_trans x y [] h t = tt
  less_trans x y (z ∷ zs) h t = (o.trans x y z h t.0, less_trans x y zs h t.1)

  all_insert : (P : K → Type 0) (xs : List K) (k : K) → P k → AllByRecursion P xs → AllByRecursion P (insert_key cmp xs k)
  all_insert P [] k one all = (one, tt)
  all_insert P (x ∷ xs) k one all = by (cmp k x) (all_insert P xs k one all.1)
    where
      by : (r : Ordering) → AllByRecursion P (insert_key cmp xs k) → AllByRecursion P (match_ordering r (k ∷ x ∷ xs) (x ∷ xs) (x ∷ insert_key cmp xs k))
      by Less more = (one, all)
      by Equal more = all
      by Greater more = (all.0, more)

  rises-insert : (xs : List K) (k : K) → IsStrictlySortedBy cmp xs → IsStrictlySortedBy cmp (insert_key cmp xs k)
  unfolding IsStrictlySortedBy
  rises-insert [] k h = (tt, tt)
  rises-insert (x ∷ xs) k h = by (cmp k x) refl (rises-insert xs k h.1)
    where
      by : (r : Ordering) → cmp k x ≡ r → IsStrictlySortedBy cmp (insert_key cmp xs k) → IsStrictlySortedBy cmp (match_ordering r (k ∷ x ∷ xs) (x ∷ xs) (x ∷ insert_key cmp xs k))
      by Less e more = ((e, less_trans k x xs e h.0), h)
      by Equal e more = h
      by Greater e more = (all_insert (λ y. cmp x y ≡ Less) xs k (o.antisymm x k ∙ ap ordering_reverse e) h.0, more)

  pub rises-distinct : (ks : List K) → IsStrictlySortedBy cmp (distinct cmp ks)
  unfolding IsStrictlySortedBy
  rises-distinct [] = tt
  rises-distinct (k ∷ ks) = rises-insert (distinct cmp ks) k (rises-distinct ks)

  -- a test finds a key among the distinct keys exactly if it finds one among the keys
  any-insert : (t : K → Bool) (xs : List K) (k : K) → list_any t (insert_key cmp xs k) ≡ (t k || list_any t xs)
  any-insert t [] k = refl
  any-insert t (x ∷ xs) k = by (cmp k x) refl (any-insert t xs k)
    where
      swap_or : (a b c d : Bool) → d ≡ (b || c) → (a || d) ≡ (b || (a || c))
      swap_or true true c d e = refl
      swap_or true false c d e = refl
      swap_or false b c d e = e

      twice : (a b c : Bool) → a ≡ b → (b || c) ≡ (a || (b || c))
      twice true true c e = refl
      twice true false c e = absurd (true≢false e)
      twice false b c e = refl

      by : (r : Ordering) → cmp k x ≡ r → list_any t (insert_key cmp xs k) ≡ (t k || list_any t xs)
          → list_any t (match_ordering r (k ∷ x ∷ xs) (x ∷ xs) (x ∷ insert_key cmp xs k)) ≡ (t k || list_any t (x ∷ xs))
      by Less e more = refl
      by Equal e more = twice (t k) (t x) (list_any t xs) (ap t (exact k x e))
      by Greater e more = swap_or (t x) (t k) (list_any t xs) (list_any t (insert_key cmp xs k)) more

  pub any-distinct : (t : K → Bool) (ks : List K) → list_any t (distinct cmp ks) ≡ list_any t ks
  any-distinct t [] = refl
  any-distinct t (k ∷ ks) = any-insert t (distinct cmp ks) k ∙ ap (λ b. t k || b) (any-distinct t ks)

  -- entries in order, by the test that finite maps keep
  below : {X : Type 0} (x : K) (es : List (K × X)) → AllByRecursion (λ y. cmp x y ≡ Less) (map (λ e. e.0) es) → T (below_all cmp x es)
  below x [] h = tt
  below x (e ∷ es) h = subst (λ r. T (is_lt r && below_all cmp x es)) (sym h.0) (below x es h.1)

  both : (a b : Bool) → T a → T b → T (a && b)
  both true b x y = y
  both false b x y = elim x [ ]

  pub sorted_entries : {X : Type 0} (es : List (K × X)) → IsStrictlySortedBy cmp (map (λ e. e.0) es) → T (is_sorted cmp es)
  unfolding IsStrictlySortedBy
  sorted_entries [] h = tt
  sorted_entries (e ∷ es) h = both _ _ (below e.0 es h.0) (sorted_entries es h.1)

  -- entries whose values are given by their keys
  abbrev pub tabled : {X : Type 0} → (K → X) → List K → List (K × X)
  tabled f ks = map (λ k. (k, f k)) ks

  keys-tabled : {X : Type 0} (f : K → X) (ks : List K) → map (λ e. e.0) (tabled f ks) ≡ ks
  keys-tabled f [] = refl
  keys-tabled f (k ∷ ks) = ap (λ l. k ∷ l) (keys-tabled f ks)

  find-tabled : {X : Type 0} (f : K → X) (q : K) (ks : List K) → find cmp q (tabled f ks) ≡ cond (list_any (eq_by_cmp cmp q) ks) (Some (f q)) None
  find-tabled f q [] = refl
  find-tabled f q (k ∷ ks) = by (eq_by_cmp cmp q k) (λ e. ap f (sym (tied q k e))) (find-tabled f q ks)
    where
      by : (b : Bool) → (b ≡ true → f k ≡ f q) → find cmp q (tabled f ks) ≡ cond (list_any (eq_by_cmp cmp q) ks) (Some (f q)) None → cond b (Some (f k)) (find cmp q (tabled f ks)) ≡ cond (b || list_any (eq_by_cmp cmp q) ks) (Some (f q)) None
      by true g more = ap Some (g refl)
      by false g more = more

  -- entries in order that answer as the table does are the table
  pub entries_are_table : {X : Type 0} (f : K → X) (es : List (K × X)) (ks : List K) → IsStrictlySortedBy cmp (map (λ e. e.0) es)
      → ((q : K) → find cmp q es ≡ cond (list_any (eq_by_cmp cmp q) ks) (Some (f q)) None)
      → es ≡ tabled f (distinct cmp ks)
  entries_are_table f es ks up is =
      same_entries cmp o exact es (tabled f (distinct cmp ks)) (sorted_entries es up)
      (sorted_entries _ (subst (IsStrictlySortedBy cmp) (sym (keys-tabled f (distinct cmp ks))) (rises-distinct ks)))
      (λ q. is q ∙ sym (find-tabled f q (distinct cmp ks) ∙ ap (λ b. cond b (Some (f q)) None) (any-distinct (eq_by_cmp cmp q) ks)))

  -- lists with the same keys have the same distinct keys
  pub distinct_alike : (xs ys : List K) → ((q : K) → list_any (eq_by_cmp cmp q) xs ≡ list_any (eq_by_cmp cmp q) ys) → distinct cmp xs ≡ distinct cmp ys
  distinct_alike xs ys same =
      let mark : K → Unit {0} = λ k. tt in
      let e = entries_are_table mark (tabled mark (distinct cmp xs)) ys
      (subst (IsStrictlySortedBy cmp) (sym (keys-tabled mark (distinct cmp xs))) (rises-distinct xs))
      (λ q. find-tabled mark q (distinct cmp xs) ∙ ap (λ b. cond b (Some tt) None) (any-distinct (eq_by_cmp cmp q) xs ∙ same q)) in
      sym (keys-tabled mark (distinct cmp xs)) ∙ ap (map (λ e. e.0)) e ∙ keys-tabled mark (distinct cmp ys)

  all_distinct : (P : K → Type 0) (ks : List K) → AllByRecursion P ks → AllByRecursion P (distinct cmp ks)
  all_distinct P [] all = tt
  all_distinct P (k ∷ ks) all = all_insert P (distinct cmp ks) k all.0 (all_distinct P ks all.1)

  -- what holds of the key of each row holds of the key of each group
  pub all_grouped : (P : K → Type 0) {R V M : Type 0} (key : R → K) (value : R → V) (combine : List V → M) (rows : List R)
      → AllByRecursion (λ r. P (key r)) rows → AllByRecursion (λ e. P e.0) (grouped cmp key value combine rows)
  all_grouped P key value combine rows all =
      let keys : AllByRecursion P (map key rows) = mapped key rows all in
      tables (λ k. (k, combine (values_at cmp key value rows k))) (λ k. refl) (distinct cmp (map key rows)) (all_distinct P (map key rows) keys)
    where
      mapped : {X : Type 0} (f : X → K) (xs : List X) → AllByRecursion (λ x. P (f x)) xs → AllByRecursion P (map f xs)
      mapped f [] h = tt
      mapped f (x ∷ xs) h = (h.0, mapped f xs h.1)

      tables : {M : Type 0} (f : K → K × M) → ((k : K) → (f k).0 ≡ k) → (ks : List K) → AllByRecursion P ks → AllByRecursion (λ e. P e.0) (map f ks)
      tables f same [] h = tt
      tables f same (k ∷ ks) h = (subst P (sym (same k)) h.0, tables f same ks h.1)

  -- the keys of groups strictly rise
  pub rises-grouped : {R V M : Type 0} (key : R → K) (value : R → V) (combine : List V → M) (rows : List R) → IsStrictlySortedBy cmp (map (λ e. e.0) (grouped cmp key value combine rows))
  rises-grouped key value combine rows =
      subst (IsStrictlySortedBy cmp) (sym (keys-tabled (λ k. combine (values_at cmp key value rows k)) (distinct cmp (map key rows)))) (rises-distinct (map key rows))

list_any-map : {X Y : Type 0} (t : Y → Bool) (f : X → Y) (xs : List X) → list_any t (map f xs) ≡ list_any (λ x. t (f x)) xs
list_any-map t f [] = refl
list_any-map t f (x ∷ xs) = ap (λ b. t (f x) || b) (list_any-map t f xs)

-- ---- gathering an aggregate

module _ {K J R I M : Type 0} {by_key : K → K → Ordering} {by_part : J → J → Ordering} (o : IsTotalOrder by_key) (exact : IsExact by_key)
    (p : IsTotalOrder by_part) (exact_part : IsExact by_part)
    {count : M → ℕ} {of : List I → M} {merge : M → M → M} (laws : MeasureLaws count of merge) (part : K → J) (key : R → K) (item : R → I) where
  abbrev same_key : K → K → Bool
  same_key = eq_by_cmp by_key

  abbrev cell : List R → K → K × M
  cell rows k = (k, of (values_at by_key key item rows k))

  -- whether a row is of one of these keys and of the part
  abbrev of_part : J → List K → R → Bool
  of_part j ks r = list_any (λ k. eq_by_cmp by_part j (part k) && same_key k (key r)) ks

  -- no row of the key k is of one of the other keys
  apart : (j : J) (k : K) (ks : List K) → AllByRecursion (λ y. by_key k y ≡ Less) ks → (r : R) → same_key k (key r) ≡ true → of_part j ks r ≡ false
  apart j k [] h r e = refl
  apart j k (y ∷ ys) h r e =
      let other : same_key y (key r) ≡ false = ap (same_key y) (sym (tied o exact k (key r) e)) ∙ swapped o exact y k ∙ ap is_eq h.0 in
      ap (λ b. (eq_by_cmp by_part j (part y) && b) || of_part j ys r) other ∙ ap (λ b. b || of_part j ys r) (and-false _) ∙ apart j k ys h.1 r e

  gather_step : (b : Bool) (rows : List R) (k : K) (cells : List (K × M)) (q : R → Bool) → ((r : R) → same_key k (key r) ≡ true → q r ≡ false)
      → merged_all (of []) merge (map (λ c. c.1) cells) ≡ of (map item (filter q rows))
      → merged_all (of []) merge (map (λ c. c.1) (cond b (cell rows k ∷ cells) cells)) ≡ of (map item (filter (λ r. (b && same_key k (key r)) || q r) rows))
  gather_step true rows k cells q none h = ap (merge (of (values_at by_key key item rows k))) h ∙ of_union laws item (λ r. same_key k (key r)) q none rows
  gather_step false rows k cells q none h = h

  -- the merge of the cells of a part is the measure of the rows of these keys and that part
  gathered : (j : J) (rows : List R) (ks : List K) → IsStrictlySortedBy by_key ks
      → merged_all (of []) merge (map (λ c. c.1) (filter (λ c. eq_by_cmp by_part j (part c.0)) (map (cell rows) ks))) ≡ of (map item (filter (of_part j ks) rows))
  unfolding IsStrictlySortedBy
  gathered j rows [] h = ap (λ l. of (map item l)) (sym (filter-none rows))
  gathered j rows (k ∷ ks) h =
      gather_step (eq_by_cmp by_part j (part k)) rows k (filter (λ c. eq_by_cmp by_part j (part c.0)) (map (cell rows) ks)) (of_part j ks) (apart j k ks h.0) (gathered j rows ks h.1)

  -- a row whose key is among these is of the part exactly if its key is
  of_part_is : (j : J) (ks : List K) (r : R) → of_part j ks r ≡ (eq_by_cmp by_part j (part (key r)) && list_any (same_key (key r)) ks)
  of_part_is j [] r = sym (and-false _)
  of_part_is j (k ∷ ks) r =
      by (same_key k (key r)) (swapped o exact (key r) k) (λ e. ap (λ x. eq_by_cmp by_part j (part x)) (tied o exact k (key r) e)) (of_part_is j ks r)
    where
      one : (a c z : Bool) → a ≡ c → ((a && true) || (c && z)) ≡ (c && true)
      one true true z e = refl
      one true false z e = absurd (true≢false e)
      one false true z e = absurd (true≢false (sym e))
      one false false z e = refl

      none : (a c z : Bool) → ((a && false) || (c && z)) ≡ (c && z)
      none true c z = refl
      none false c z = refl

      by : (b : Bool) → same_key (key r) k ≡ b → (b ≡ true → eq_by_cmp by_part j (part k) ≡ eq_by_cmp by_part j (part (key r)))
          → of_part j ks r ≡ (eq_by_cmp by_part j (part (key r)) && list_any (same_key (key r)) ks)
          → ((eq_by_cmp by_part j (part k) && b) || of_part j ks r) ≡ (eq_by_cmp by_part j (part (key r)) && (same_key (key r) k || list_any (same_key (key r)) ks))
      by true s e more = ap (λ d. (eq_by_cmp by_part j (part k) && true) || d) more ∙ one (eq_by_cmp by_part j (part k)) (eq_by_cmp by_part j (part (key r))) (list_any (same_key (key r)) ks) (e refl) ∙ ap (λ d. eq_by_cmp by_part j (part (key r)) && (d || list_any (same_key (key r)) ks)) (sym s)
      by false s e more = ap (λ d. (eq_by_cmp by_part j (part k) && false) || d) more ∙ none (eq_by_cmp by_part j (part k)) (eq_by_cmp by_part j (part (key r))) (list_any (same_key (key r)) ks) ∙ ap (λ d. eq_by_cmp by_part j (part (key r)) && (d || list_any (same_key (key r)) ks)) (sym s)

  -- the key of each row is among the keys of rows
  keys_among : (ks : List K) (rows : List R) → ((q : K) → list_any (same_key q) (map key rows) ≡ true → list_any (same_key q) ks ≡ true)
      → AllByRecursion (λ r. list_any (same_key (key r)) ks ≡ true) rows
  keys_among ks [] h = tt
  keys_among ks (r ∷ rows) h = (
    h (key r) (ap (λ b. b || list_any (same_key (key r)) (map key rows)) (itself o exact (key r))),
    keys_among ks rows (λ q m. h q (ap (λ b. same_key q (key r) || b) m ∙ or-true _)),
  )

  picks_part : (j : J) (ks : List K) (rows : List R) → AllByRecursion (λ r. list_any (same_key (key r)) ks ≡ true) rows
      → AllByRecursion (λ r. of_part j ks r ≡ eq_by_cmp by_part j (part (key r))) rows
  picks_part j ks [] h = tt
  picks_part j ks (r ∷ rows) h =
      (of_part_is j ks r ∙ ap (λ b. eq_by_cmp by_part j (part (key r)) && b) h.0 ∙ and-true _, picks_part j ks rows h.1)

  -- the parts of the distinct keys are the parts of the keys
  same_parts : (rows : List R) → distinct by_part (map (λ c. part c.0) (map (cell rows) (distinct by_key (map key rows)))) ≡ distinct by_part (map (λ r. part (key r)) rows)
  same_parts rows =
      let ks = distinct by_key (map key rows) in
      distinct_alike p exact_part _ _ (λ q.
      let t : K → Bool = λ k. eq_by_cmp by_part q (part k) in
      list_any-map (eq_by_cmp by_part q) (λ (c : K × M). part c.0) (map (cell rows) ks) ∙ list_any-map (λ (c : K × M). t c.0) (cell rows) ks
      ∙ any-distinct o exact t (map key rows) ∙ list_any-map t key rows ∙ sym (list_any-map (eq_by_cmp by_part q) (λ r. part (key r)) rows))

  same_values : (rows : List R) (j : J)
      → merged_all (of []) merge (values_at by_part (λ (c : K × M). part c.0) (λ c. c.1) (aggregate by_key key item of rows) j) ≡ of (values_at by_part (λ r. part (key r)) item rows j)
  same_values rows j =
      let ks = distinct by_key (map key rows) in
      gathered j rows ks (rises-distinct o exact (map key rows))
      ∙ ap (λ l. of (map item l)) (filter_alike (of_part j ks) (λ r. eq_by_cmp by_part j (part (key r))) rows (picks_part j ks rows (keys_among ks rows (λ q m. any-distinct o exact (same_key q) (map key rows) ∙ m))))

  pub gather_aggregate : (rows : List R)
      → gather by_part part (of []) merge (aggregate by_key key item of rows) ≡ aggregate by_part (λ r. part (key r)) item of rows
  gather_aggregate rows = λ i. map (λ j. (j, same_values rows j i)) (same_parts rows i)

-- ---- gathering several aggregates

merged-append : {I M : Type 0} {count : M → ℕ} {of : List I → M} {merge : M → M → M} → MeasureLaws count of merge → (xs ys : List M)
    → merged_all (of []) merge (xs ++ ys) ≡ merge (merged_all (of []) merge xs) (merged_all (of []) merge ys)
merged-append {of = of} {merge = merge} laws [] ys = sym (laws.neutral (merged_all (of []) merge ys))
merged-append {of = of} {merge = merge} laws (x ∷ xs) ys =
    ap (merge x) (merged-append laws xs ys) ∙ sym (laws.associative x (merged_all (of []) merge xs) (merged_all (of []) merge ys))

values-append : {K R V : Type 0} (cmp : K → K → Ordering) (key : R → K) (value : R → V) (xs ys : List R) (q : K)
    → values_at cmp key value (xs ++ ys) q ≡ values_at cmp key value xs q ++ values_at cmp key value ys q
values-append cmp key value [] ys q = refl
values-append cmp key value (x ∷ xs) ys q = by (eq_by_cmp cmp q (key x)) (values-append cmp key value xs ys q)
  where
    by : (b : Bool) → values_at cmp key value (xs ++ ys) q ≡ values_at cmp key value xs q ++ values_at cmp key value ys q
        → map value (cond b (x ∷ filter (λ r. eq_by_cmp cmp q (key r)) (xs ++ ys)) (filter (λ r. eq_by_cmp cmp q (key r)) (xs ++ ys)))
        ≡ map value (cond b (x ∷ filter (λ r. eq_by_cmp cmp q (key r)) xs) (filter (λ r. eq_by_cmp cmp q (key r)) xs)) ++ values_at cmp key value ys q
    by true h = ap (λ l. value x ∷ l) h
    by false h = h

any-append : {X : Type 0} (t : X → Bool) (xs ys : List X) → list_any t (xs ++ ys) ≡ (list_any t xs || list_any t ys)
any-append t [] ys = refl
any-append t (x ∷ xs) ys = by (t x) (any-append t xs ys)
  where
    by : (b : Bool) → list_any t (xs ++ ys) ≡ (list_any t xs || list_any t ys) → (b || list_any t (xs ++ ys)) ≡ ((b || list_any t xs) || list_any t ys)
    by true h = refl
    by false h = h

module _ {K J R I M : Type 0} {by_key : K → K → Ordering} {by_part : J → J → Ordering} (o : IsTotalOrder by_key) (exact : IsExact by_key)
    (p : IsTotalOrder by_part) (exact_part : IsExact by_part)
    {count : M → ℕ} {of : List I → M} {merge : M → M → M} (laws : MeasureLaws count of merge) (part : K → J) (key : R → K) (item : R → I) where
  abbrev concat : List (List R) → List R
  concat lists = flat_map (λ rows. rows) lists

  abbrev cells_of : List (List R) → List (K × M)
  cells_of lists = flat_map (aggregate by_key key item of) lists

  all_values : (lists : List (List R)) (j : J)
      → merged_all (of []) merge (values_at by_part (λ (c : K × M). part c.0) (λ c. c.1) (cells_of lists) j) ≡ of (values_at by_part (λ r. part (key r)) item (concat lists) j)
  all_values [] j = refl
  all_values (rows ∷ lists) j =
      ap (merged_all (of []) merge) (values-append by_part (λ (c : K × M). part c.0) (λ c. c.1) (aggregate by_key key item of rows) (cells_of lists) j)
      ∙ merged-append laws (values_at by_part (λ (c : K × M). part c.0) (λ c. c.1) (aggregate by_key key item of rows) j) (values_at by_part (λ (c : K × M). part c.0) (λ c. c.1) (cells_of lists) j)
      ∙ (λ i. merge (same_values o exact p exact_part laws part key item rows j i) (all_values lists j i))
      ∙ sym (laws.joined (values_at by_part (λ r. part (key r)) item rows j) (values_at by_part (λ r. part (key r)) item (concat lists) j))
      ∙ ap of (sym (values-append by_part (λ r. part (key r)) item rows (concat lists) j))

  all_parts : (t : J → Bool) (lists : List (List R)) → list_any t (map (λ c. part c.0) (cells_of lists)) ≡ list_any t (map (λ r. part (key r)) (concat lists))
  all_parts t [] = refl
  all_parts t (rows ∷ lists) =
      let u : K → Bool = λ k. t (part k) in
      let here = list_any-map u (λ (c : K × M). c.0) (aggregate by_key key item of rows) in
      let keys : map (λ (c : K × M). c.0) (aggregate by_key key item of rows) ≡ distinct by_key (map key rows) = keys-tabled o exact (λ k. of (values_at by_key key item rows k)) (distinct by_key (map key rows)) in
      let first : list_any (λ (c : K × M). u c.0) (aggregate by_key key item of rows) ≡ list_any (λ r. u (key r)) rows
      = sym here ∙ ap (list_any u) keys ∙ any-distinct o exact u (map key rows) ∙ list_any-map u key rows in
      let others : list_any (λ (c : K × M). u c.0) (cells_of lists) ≡ list_any (λ r. u (key r)) (concat lists)
      = sym (list_any-map t (λ (c : K × M). part c.0) (cells_of lists)) ∙ all_parts t lists ∙ list_any-map t (λ r. part (key r)) (concat lists) in
      list_any-map t (λ (c : K × M). part c.0) (aggregate by_key key item of rows ++ cells_of lists)
      ∙ any-append (λ (c : K × M). u c.0) (aggregate by_key key item of rows) (cells_of lists)
      ∙ (λ i. first i || others i)
      ∙ sym (any-append (λ r. u (key r)) rows (concat lists))
      ∙ sym (list_any-map t (λ r. part (key r)) (rows ++ concat lists))

  pub gather_aggregates : (lists : List (List R))
      → gather by_part part (of []) merge (cells_of lists) ≡ aggregate by_part (λ r. part (key r)) item of (concat lists)
  gather_aggregates lists =
      λ i. map (λ j. (j, all_values lists j i)) (distinct_alike p exact_part (map (λ (c : K × M). part c.0) (cells_of lists)) (map (λ r. part (key r)) (concat lists)) (λ q. all_parts (eq_by_cmp by_part q) lists) i)

-- ---- all cells together

unit_cmp : Unit {0} → Unit {0} → Ordering
unit_cmp x y = Equal

filter-all : {X : Type 0} (xs : List X) → filter (λ x. true) xs ≡ xs
filter-all [] = refl
filter-all (x ∷ xs) = ap (λ l. x ∷ l) (filter-all xs)

-- the cells of an aggregate, merged, are the measure of all rows
pub merged_aggregate : {K R I M : Type 0} {by_key : K → K → Ordering} → IsTotalOrder by_key → IsExact by_key
    → {count : M → ℕ} {of : List I → M} {merge : M → M → M} → MeasureLaws count of merge → (key : R → K) (item : R → I) (rows : List R)
    → merged_all (of []) merge (map (λ c. c.1) (aggregate by_key key item of rows)) ≡ of (map item rows)
unfolding unit_cmp
merged_aggregate {by_key = by_key} o exact {of = of} {merge = merge} laws key item rows =
    let total : IsTotalOrder unit_cmp = record { antisymm = λ x y. refl; trans = λ x y z h g. h; congr = λ x y z e. refl } in
    let one : IsExact unit_cmp = λ x y e. refl in
    ap (λ l. merged_all (of []) merge (map (λ c. c.1) l)) (sym (filter-all (aggregate by_key key item of rows)))
    ∙ same_values o exact total one laws (λ k. tt) key item rows tt ∙ ap (λ l. of (map item l)) (filter-all rows)
