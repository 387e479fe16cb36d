-- Tests of keys, and the rows that pass them.
use Rattle.std.proofs.Common.{◌≡◌, ◌<◌, ◌+◌, ◌∙◌, ℕ, zero, suc, List, [], ◌∷◌, ◌++◌, map, length, get_or, Bool, true, false, cond, ◌&&◌, add-one, refl, sym, ap, arith}
use Rattle.std.specs.Prelude.{All, slice_index}
use Rattle.std.specs.List.{filter, list_all, range_with_len}
use Rattle.std.proofs.lemmas.List.{map-id}
use Rattle.std.proofs.lemmas.List.Elements.{All-filter, filter-append}
use Rattle.std.proofs.lemmas.List.FromFn.{fill_by_all, get_or-range_with_len, length-range_with_len, map-range_with_len_more}
use Rattle.cell_store.specs.declared.cell.Cell.{Cell}
use Rattle.cell_store.specs.declared.select.IdSpan.{IdSpan}
use Rattle.cell_store.specs.declared.select.IdTest.{IdTest}
use Rattle.cell_store.specs.Selects.{in_spans, passes_test, row_at}

-- the numbers below n + 1
range_more : (n : ℕ) → range_with_len 0 (n + 1) ≡ range_with_len 0 n ++ n ∷ []
range_more n = sym (map-id (range_with_len 0 (n + 1))) ∙ map-range_with_len_more (λ x. x) 0 n n (omega arith) ∙ ap (λ l. l ++ n ∷ []) (map-id (range_with_len 0 n))

-- the numbers below n + 1 that pass
pub filter-range_more : (p : ℕ → Bool) (n : ℕ) → filter p (range_with_len 0 (n + 1)) ≡ filter p (range_with_len 0 n) ++ cond (p n) (n ∷ []) []
filter-range_more p n = ap (filter p) (range_more n) ∙ filter-append p (range_with_len 0 n) (n ∷ [])

-- tests that agree at the numbers below n pass the same of them
pub filter-range_same : (p q : ℕ → Bool) (n : ℕ) → ((k : ℕ) → k < n → p k ≡ q k) → filter p (range_with_len 0 n) ≡ filter q (range_with_len 0 n)
filter-range_same p q zero same = refl
filter-range_same p q (suc n) same =
    let step : range_with_len 0 (suc n) ≡ range_with_len 0 n ++ n ∷ [] = ap (range_with_len 0) (sym (add-one n)) ∙ range_more n in
    let rest = filter-range_same p q n (λ k lt. same k (omega arith)) in
    let here = same n (omega arith) in
    ap (filter p) step ∙ filter-append p (range_with_len 0 n) (n ∷ [])
    ∙ (λ i. rest i ++ cond (here i) (n ∷ []) [])
    ∙ sym (ap (filter q) step ∙ filter-append q (range_with_len 0 n) (n ∷ []))

and-false : (b : Bool) → (b && false) ≡ false
and-false true = refl
and-false false = refl

-- where one fails, not all pass
pub fails_at : {X : Type 0} (p : X → Bool) (xs : List X) (i : ℕ) (d : X) → i < length xs → p (get_or xs i d) ≡ false → list_all p xs ≡ false
fails_at p [] i d lt e = absurd (omega arith)
fails_at p (x ∷ xs) zero d lt e = ap (λ b. b && list_all p xs) e
fails_at p (x ∷ xs) (suc i) d lt e = ap (λ b. p x && b) (fails_at p xs i d (omega arith) e) ∙ and-false (p x)

filter-map : {X Y : Type 0} (p : Y → Bool) (f : X → Y) (xs : List X) → filter p (map f xs) ≡ map f (filter (λ x. p (f x)) xs)
filter-map p f [] = refl
filter-map p f (x ∷ xs) = by (p (f x)) (filter-map p f xs)
  where
    by : (b : Bool) → filter p (map f xs) ≡ map f (filter (λ x. p (f x)) xs)
        → cond b (f x ∷ filter p (map f xs)) (filter p (map f xs)) ≡ map f (cond b (x ∷ filter (λ x. p (f x)) xs) (filter (λ x. p (f x)) xs))
    by true e = ap (λ l. f x ∷ l) e
    by false e = e

-- the rows at the places of those that pass are the rows that pass
pub rows_at_places : (p : List ℕ × List Cell → Bool) (rows : List (List ℕ × List Cell)) → map (row_at rows) (filter (λ place. p (row_at rows place)) (range_with_len 0 (length rows))) ≡ filter p rows
rows_at_places p rows =
    sym (filter-map p (row_at rows) (range_with_len 0 (length rows)))
    ∙ ap (filter p) (sym (fill_by_all (row_at rows) rows (length rows) ([], []) refl (λ k lt. refl)))

-- a number passes the spans of a test exactly where its key passes the test
pub passes-id : (key : List ℕ) (test : IdTest) (spans : List IdSpan) (id : ℕ) → spans ≡ test.spans.items → id ≡ slice_index key test.column → in_spans spans id ≡ passes_test key test
passes-id key test spans id e f = λ i. in_spans (e i) (f i)

-- what passes of the numbers below n is below n
pub filter-range_within : (p : ℕ → Bool) (n : ℕ) → All (λ k. k < n) (filter p (range_with_len 0 n))
filter-range_within p n =
    All-filter p (λ k. k < n) (range_with_len 0 n)
    (λ k d lt. let small : k < n = omega (arith, length-range_with_len 0 n) in rw (get_or-range_with_len 0 n k d small) (omega arith))
