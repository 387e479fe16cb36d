-- How cells that are filled row by row come to the groups of the rows.
use Rattle.std.proofs.Common.{◌≡◌, ◌≤◌, ◌+◌, ℕ, List, [], ◌∷◌, ◌++◌, map, Bool, true, false, cond, ◌||◌, refl, sym, ap, ◌∙◌, length, arith, Some, None}
use Rattle.std.specs.declared.option.Option.{Option}
use Rattle.std.specs.declared.cmp.Ordering.{Ordering}
use Rattle.std.specs.Cmp.{IsTotalOrder}
use Rattle.std.specs.List.{filter, list_any, sum_by}
use Rattle.std.specs.Ordering.{eq_by_cmp}
use Rattle.std.specs.BTreeMap.{BTreeMap, IsOrdered, get, is_at}
use Rattle.std.specs.FinMap.Entries.{find}
use Rattle.std.specs.Map.{lookup}
use Rattle.std.proofs.lemmas.List.Sums.{sum_by-append}
use Rattle.std.proofs.Common.{zero-add}
use Rattle.std.proofs.lemmas.List.{length-map}
use Rattle.measure_laws.specs.Measures.{MeasureLaws}
use Rattle.aggregation.specs.Groups.{aggregate, grouped, merged_all, values_at}
use Rattle.aggregation.specs.Laws.{IsExact}
use Rattle.aggregation.proofs.GroupFacts.{entries_are_table, merged_aggregate, tied}
use Rattle.aggregation.specs.Cells.{plus}

-- what the values at a key come to, if there are any
abbrev pub cell_of : {V M : Type 0} → (List V → M) → List V → Option M
cell_of combine [] = None
cell_of combine (v ∷ vs) = Some (combine (v ∷ vs))

-- how one more value changes what the values come to
pub record Grows {V M : Type 0} (combine : List V → M) (merge : M → M → M) (unit : V → M) : Type 0 where
  pub one : (v : V) → combine (v ∷ []) ≡ unit v
  pub more : (x : V) (xs : List V) (v : V) → combine (x ∷ (xs ++ v ∷ [])) ≡ merge (combine (x ∷ xs)) (unit v)

-- no more values at a key than rows
pub length-values_at : {K R V : Type 0} (cmp : K → K → Ordering) (key : R → K) (value : R → V) (rows : List R) (q : K) → length (values_at cmp key value rows q) ≤ length rows
length-values_at cmp key value [] q = omega arith
length-values_at cmp key value (r ∷ rows) q = by (eq_by_cmp cmp q (key r)) (length-values_at cmp key value rows q)
  where
    by : (b : Bool) → length (values_at cmp key value rows q) ≤ length rows
        → length (map value (cond b (r ∷ filter (λ r. eq_by_cmp cmp q (key r)) rows) (filter (λ r. eq_by_cmp cmp q (key r)) rows))) ≤ length (r ∷ rows)
    by true h = omega arith
    by false h = omega arith

module _ {K R V M : Type 0} {cmp : K → K → Ordering} (o : IsTotalOrder cmp) (exact : IsExact cmp) (key : R → K) (value : R → V)
    {combine : List V → M} {merge : M → M → M} {unit : V → M} (grows : Grows combine merge unit) where
  abbrev pub Filled : List R → (K → Option M) → Type 0
  Filled rows cells = (q : K) → cells q ≡ cell_of combine (values_at cmp key value rows q)

  values_push : (rows : List R) (r : R) (q : K) → values_at cmp key value (rows ++ r ∷ []) q ≡ cond (eq_by_cmp cmp q (key r)) (values_at cmp key value rows q ++ value r ∷ []) (values_at cmp key value rows q)
  values_push [] r q = by (eq_by_cmp cmp q (key r))
    where
      by : (b : Bool) → map value (cond b (r ∷ []) []) ≡ cond b (value r ∷ []) []
      by true = refl
      by false = refl
  values_push (x ∷ rows) r q = by (eq_by_cmp cmp q (key x)) (eq_by_cmp cmp q (key r)) (values_push rows r q)
    where
      by : (a b : Bool) → values_at cmp key value (rows ++ r ∷ []) q ≡ cond b (values_at cmp key value rows q ++ value r ∷ []) (values_at cmp key value rows q)
          → map value (cond a (x ∷ filter (λ r. eq_by_cmp cmp q (key r)) (rows ++ r ∷ [])) (filter (λ r. eq_by_cmp cmp q (key r)) (rows ++ r ∷ [])))
          ≡ cond b (map value (cond a (x ∷ filter (λ r. eq_by_cmp cmp q (key r)) rows) (filter (λ r. eq_by_cmp cmp q (key r)) rows)) ++ value r ∷ [])
          (map value (cond a (x ∷ filter (λ r. eq_by_cmp cmp q (key r)) rows) (filter (λ r. eq_by_cmp cmp q (key r)) rows)))
      by true true h = ap (λ l. value x ∷ l) h
      by true false h = ap (λ l. value x ∷ l) h
      by false true h = h
      by false false h = h

  pushed : (vs : List V) (v : V) → Some (plus merge (cell_of combine vs) (unit v)) ≡ cell_of combine (vs ++ v ∷ [])
  pushed [] v = ap Some (sym (grows.one v))
  pushed (x ∷ xs) v = ap Some (sym (grows.more x xs v))

  pub fill_step : (rows : List R) (r : R) (old new : K → Option M) → Filled rows old
      → ((q : K) → new q ≡ cond (eq_by_cmp cmp q (key r)) (Some (plus merge (old (key r)) (unit (value r)))) (old q))
      → Filled (rows ++ r ∷ []) new
  fill_step rows r old new was adds q = adds q ∙ by (eq_by_cmp cmp q (key r)) refl ∙ ap (cell_of combine) (sym (values_push rows r q))
    where
      by : (b : Bool) → eq_by_cmp cmp q (key r) ≡ b → cond b (Some (plus merge (old (key r)) (unit (value r)))) (old q) ≡ cell_of combine (cond b (values_at cmp key value rows q ++ value r ∷ []) (values_at cmp key value rows q))
      by true e = ap (λ k. Some (plus merge (old k) (unit (value r)))) (sym (tied o exact q (key r) e)) ∙ ap (λ c. Some (plus merge c (unit (value r)))) (was q) ∙ pushed (values_at cmp key value rows q) (value r)
      by false e = was q

  -- the same, with the key and the part under other names
  pub fill_step_at : (rows : List R) (r : R) (old new : K → Option M) (k : K) (part : M) → k ≡ key r → part ≡ unit (value r) → Filled rows old
      → ((q : K) → new q ≡ cond (eq_by_cmp cmp q k) (Some (plus merge (old k) part)) (old q))
      → Filled (rows ++ r ∷ []) new
  fill_step_at rows r old new k part same_key same_part was adds =
      fill_step rows r old new was (λ q. adds q ∙ ap (λ x. cond (eq_by_cmp cmp q x) (Some (plus merge (old x) part)) (old q)) same_key
      ∙ ap (λ x. cond (eq_by_cmp cmp q (key r)) (Some (plus merge (old (key r)) x)) (old q)) same_part)

  some : List V → Bool
  some [] = false
  some (v ∷ vs) = true

  some_value : (rows : List R) (q : K) → some (values_at cmp key value rows q) ≡ list_any (eq_by_cmp cmp q) (map key rows)
  unfolding some
  some_value [] q = refl
  some_value (r ∷ rows) q = by (eq_by_cmp cmp q (key r)) (some_value rows q)
    where
      by : (b : Bool) → some (values_at cmp key value rows q) ≡ list_any (eq_by_cmp cmp q) (map key rows)
          → some (map value (cond b (r ∷ filter (λ r. eq_by_cmp cmp q (key r)) rows) (filter (λ r. eq_by_cmp cmp q (key r)) rows))) ≡ (b || list_any (eq_by_cmp cmp q) (map key rows))
      by true h = refl
      by false h = h

  -- a key has a cell exactly if some row has it
  cell_is : (rows : List R) (q : K) → cell_of combine (values_at cmp key value rows q) ≡ cond (list_any (eq_by_cmp cmp q) (map key rows)) (Some (combine (values_at cmp key value rows q))) None
  unfolding some
  cell_is rows q = by (values_at cmp key value rows q) ∙ ap (λ b. cond b (Some (combine (values_at cmp key value rows q))) None) (some_value rows q)
    where
      by : (vs : List V) → cell_of combine vs ≡ cond (some vs) (Some (combine vs)) None
      by [] = refl
      by (v ∷ vs) = refl

  find-get : (es : List (K × M)) (q : K) → find cmp q es ≡ lookup (is_at (cmp q)) es
  find-get [] q = refl
  find-get (e ∷ es) q = ap (λ t. cond (eq_by_cmp cmp q e.0) (Some e.1) t) (find-get es q)

  -- cells that were filled from all rows are the groups of the rows
  pub filled_is_grouped : (rows : List R) (m : BTreeMap K M) → IsOrdered cmp m → Filled rows (get cmp m) → m.entries ≡ grouped cmp key value combine rows
  filled_is_grouped rows m up filled =
      entries_are_table o exact (λ k. combine (values_at cmp key value rows k)) m.entries (map key rows) up
      (λ q. find-get m.entries q ∙ filled q ∙ cell_is rows q)

-- a measure of items grows by the measure of one more
pub measure_grows : {I M : Type 0} {count : M → ℕ} {of : List I → M} {merge : M → M → M} → MeasureLaws count of merge → Grows of merge (λ v. of (v ∷ []))
measure_grows laws = record { one = λ v. refl; more = λ x xs v. laws.joined (x ∷ xs) (v ∷ []) }

-- a cell has as many items as the key has values
pub cell_count : {I M : Type 0} {count : M → ℕ} {of : List I → M} {merge : M → M → M} → MeasureLaws count of merge → (vs : List I) (x : M) → cell_of of vs ≡ Some x → count x ≡ length vs
cell_count laws [] x e = cc e
cell_count {count = count} {of = of} laws (v ∷ vs) x e = let same : of (v ∷ vs) ≡ x = cc e in ap count (sym same) ∙ laws.counted (v ∷ vs)

-- a cell that was filled from the items of rows has room for one more where there is room for one more row
pub measured_room : {I M K R : Type 0} {count : M → ℕ} {of : List I → M} {merge : M → M → M} → MeasureLaws count of merge → (cmp : K → K → Ordering) (key : R → K) (item : R → I)
    → (rows : List R) (q : K) (x : M) (n : ℕ) → cell_of of (values_at cmp key item rows q) ≡ Some x → length rows + 1 ≤ n → count x + 1 ≤ n
measured_room laws cmp key item rows q x n had fits =
    let size = cell_count laws (values_at cmp key item rows q) x had in
    let few = length-values_at cmp key item rows q in
    omega arith

sum_cons : {X : Type 0} (f : X → ℕ) (x : X) (xs : List X) → sum_by f (x ∷ xs) ≡ f x + sum_by f xs
sum_cons f x xs = sum_by-append f (x ∷ []) xs ∙ ap (λ n. n + sum_by f xs) (zero-add (f x))

-- ---- cells merged

module _ {I M : Type 0} {count : M → ℕ} {of : List I → M} {merge : M → M → M} (laws : MeasureLaws count of merge) where
  pub merged_push : (xs : List M) (v : M) → merged_all (of []) merge (xs ++ v ∷ []) ≡ merge (merged_all (of []) merge xs) v
  merged_push [] v = laws.commutative v (of [])
  merged_push (x ∷ xs) v = ap (merge x) (merged_push xs v) ∙ sym (laws.associative x (merged_all (of []) merge xs) v)

  pub merged_grows : Grows (merged_all (of []) merge) merge (λ m. m)
  merged_grows = record { one = λ v. laws.commutative v (of []) ∙ laws.neutral v; more = λ x xs v. merged_push (x ∷ xs) v }

  merged_count : (vs : List M) → count (merged_all (of []) merge vs) ≡ sum_by count vs
  merged_count [] = laws.counted []
  merged_count (v ∷ vs) = laws.counts_add v (merged_all (of []) merge vs) ∙ ap (λ n. count v + n) (merged_count vs) ∙ sym (sum_cons count v vs)

  pub merged_cell_count : (vs : List M) (x : M) → cell_of (merged_all (of []) merge) vs ≡ Some x → count x ≡ sum_by count vs
  merged_cell_count [] x e = cc e
  merged_cell_count (v ∷ vs) x e = let same : merged_all (of []) merge (v ∷ vs) ≡ x = cc e in ap count (sym same) ∙ merged_count (v ∷ vs)

-- the values at a key sum to no more than those of all rows
pub sum_values : {K R V : Type 0} (cmp : K → K → Ordering) (key : R → K) (value : R → V) (count : V → ℕ) (rows : List R) (q : K)
    → sum_by count (values_at cmp key value rows q) ≤ sum_by (λ r. count (value r)) rows
sum_values cmp key value count [] q = omega arith
sum_values cmp key value count (r ∷ rows) q = by (eq_by_cmp cmp q (key r)) (sum_values cmp key value count rows q)
  where
    by : (b : Bool) → sum_by count (values_at cmp key value rows q) ≤ sum_by (λ r. count (value r)) rows
        → sum_by count (map value (cond b (r ∷ filter (λ r. eq_by_cmp cmp q (key r)) rows) (filter (λ r. eq_by_cmp cmp q (key r)) rows))) ≤ sum_by (λ r. count (value r)) (r ∷ rows)
    by true h = omega (arith, sum_cons (λ r. count (value r)) r rows, sum_cons count (value r) (values_at cmp key value rows q))
    by false h = omega (arith, sum_cons (λ r. count (value r)) r rows)

-- a cell that is merged from cells so far has room for the next one
pub merged_room : {I M K J : Type 0} {count : M → ℕ} {of : List I → M} {merge : M → M → M} → MeasureLaws count of merge → (cmp : J → J → Ordering) (key : K × M → J)
    → (done rest : List (K × M)) (next : K × M) (q : J) (x : M) (n : ℕ) → cell_of (merged_all (of []) merge) (values_at cmp key (λ c. c.1) done q) ≡ Some x
    → sum_by (λ c. count c.1) (done ++ next ∷ rest) ≤ n → count x + count next.1 ≤ n
merged_room {count = count} laws cmp key done rest next q x n had fits =
    let size = merged_cell_count laws (values_at cmp key (λ c. c.1) done q) x had in
    let part = sum_values cmp key (λ c. c.1) count done q in
    let whole = sum_by-append (λ c. count c.1) done (next ∷ rest) in
    let front = sum_cons (λ c. count c.1) next rest in
    omega arith

sum_second : {K M : Type 0} (count : M → ℕ) (cells : List (K × M)) → sum_by (λ c. count c.1) cells ≡ sum_by count (map (λ c. c.1) cells)
sum_second count [] = refl
sum_second count (c ∷ cells) = sum_cons (λ c. count c.1) c cells ∙ ap (λ n. count c.1 + n) (sum_second count cells) ∙ sym (sum_cons count c.1 (map (λ c. c.1) cells))

-- the cells of an aggregate have as many items as there are rows
pub count_aggregate : {K R I M : Type 0} {cmp : K → K → Ordering} → IsTotalOrder cmp → IsExact cmp → {count : M → ℕ} {of : List I → M} {merge : M → M → M}
    → MeasureLaws count of merge → (key : R → K) (item : R → I) (rows : List R) → sum_by (λ c. count c.1) (aggregate cmp key item of rows) ≡ length rows
count_aggregate {cmp = cmp} o exact {count = count} {of = of} laws key item rows =
    let cells = aggregate cmp key item of rows in
    sum_second count cells ∙ sym (merged_count laws (map (λ c. c.1) cells)) ∙ ap count (merged_aggregate o exact laws key item rows) ∙ laws.counted (map item rows) ∙ length-map rows item

-- the merge of the cells so far has room for the next one
pub merged_all_room : {I M K : Type 0} {count : M → ℕ} {of : List I → M} {merge : M → M → M} → MeasureLaws count of merge → (done rest : List (K × M)) (next : K × M) (n : ℕ)
    → sum_by (λ c. count c.1) (done ++ next ∷ rest) ≤ n → count (merged_all (of []) merge (map (λ c. c.1) done)) + count next.1 ≤ n
merged_all_room {count = count} laws done rest next n fits =
    let size = merged_count laws (map (λ c. c.1) done) in
    let part = sum_second count done in
    let whole = sum_by-append (λ c. count c.1) done (next ∷ rest) in
    let front = sum_cons (λ c. count c.1) next rest in
    omega arith
