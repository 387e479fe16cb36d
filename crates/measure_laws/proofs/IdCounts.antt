-- How many different items there are.
use Rattle.std.proofs.Common.{◌≡◌, ◌≤◌, ◌<◌, ◌+◌, ◌++◌, ◌∙◌, ℕ, zero, suc, List, [], ◌∷◌, length, ap, refl, arith, length-append}
use Rattle.std.specs.Prelude.{OnErr, Result, Ok, Err}
use Rattle.std.specs.declared.cmp.Ordering.{Ordering}
use Rattle.std.specs.declared.cmp.Ordering.TheVariants.{Less, Equal, Greater}
use Rattle.std.specs.BTreeSet.{insert_key}
use Rattle.std.specs.Ordering.{match_ordering, nat_cmp}
use Rattle.std.specs.List.Sorted.{IsStrictlySortedBy}
use Rattle.measure_laws.specs.IdFacts.{different-rising, ids_laws, same_ids}
use Rattle.measure_laws.specs.Ids.{Ids, IsCountOf, different, merged_ids}
use Rattle.measure_laws.specs.Measures.{most_items}

-- a put key adds at most one, and leaves no empty list
length-insert_key : (xs : List ℕ) (k : ℕ) → (0 < length (insert_key nat_cmp xs k)) × (length (insert_key nat_cmp xs k) ≤ length xs + 1)
length-insert_key [] k = (omega arith, omega arith)
length-insert_key (x ∷ xs) k = by (nat_cmp k x) (length-insert_key xs k)
  where
    by : (r : Ordering) → (0 < length (insert_key nat_cmp xs k)) × (length (insert_key nat_cmp xs k) ≤ length xs + 1)
        → (0 < length (match_ordering r (k ∷ x ∷ xs) (x ∷ xs) (x ∷ insert_key nat_cmp xs k))) × (length (match_ordering r (k ∷ x ∷ xs) (x ∷ xs) (x ∷ insert_key nat_cmp xs k)) ≤ length (x ∷ xs) + 1)
    by Less h = (omega arith, omega arith)
    by Equal h = (omega arith, omega arith)
    by Greater h = (omega arith, omega (arith, h.1))

length-different : (xs : List ℕ) → (0 < length xs → 0 < length (different xs)) × (length (different xs) ≤ length xs)
length-different [] = (λ h. h, omega arith)
length-different (x ∷ xs) =
    let put = length-insert_key (different xs) x in
    (λ h. put.0, omega (arith, put.1, (length-different xs).1))

no_item : (xs : List ℕ) → xs ≡ [] → length xs ≡ 0
no_item xs e = ap length e

empty : (xs : List ℕ) → length xs ≡ 0 → xs ≡ []
empty [] e = refl
empty (x ∷ xs) e = absurd (omega arith)

no_more : (a b : ℕ) → (0 < a → 0 < b) → b ≡ 0 → a ≡ 0
no_more zero b h e = refl
no_more (suc a) b h e = let more : 0 < b = h (omega arith) in absurd (omega arith)

-- the different items of a list are counted by its length
pub count_items : (xs : List ℕ) → length xs ≤ most_items → IsCountOf (different xs) (length xs)
count_items xs few =
    let long = length-different xs in
    record { few = few; fewer = long.1; none = (λ e. no_more _ _ long.0 (no_item _ e), λ e. ap different (empty xs e)) }

-- the different items of two lists joined are counted by both together
pub count_joined : (xs ys : List ℕ) (m n : ℕ) → IsCountOf xs m → IsCountOf ys n → m + n ≤ most_items → IsCountOf (different (xs ++ ys)) (m + n)
count_joined xs ys m n a b few =
    let long = length-different (xs ++ ys) in
    let whole = length-append xs ys in
    record {
      few = few;
      fewer = omega (arith, long.1, whole, a.fewer, b.fewer);
      none = (
        λ e.
            let nothing : length (xs ++ ys) ≡ 0 = no_more _ _ long.0 (no_item _ e) in
            let first : m ≡ 0 = a.none.0 (empty xs (omega arith)) in
            let second : n ≡ 0 = b.none.0 (empty ys (omega arith)) in
            omega arith,
        λ e.
            let first : xs ≡ [] = a.none.1 (omega arith) in
            let second : ys ≡ [] = b.none.1 (omega arith) in
            let gone : xs ++ ys ≡ [] = rw (first, second) refl in
            ap different gone,
      );
    }

pub count_one : (x : ℕ) → IsCountOf (x ∷ []) 1
count_one x = record { few = omega arith; fewer = omega arith; none = (λ e. absurd (omega (arith, no_item (x ∷ []) e)), λ e. absurd (omega arith)) }

pub count_none : (xs : List ℕ) → xs ≡ [] → IsCountOf xs 0
count_none xs e = record { few = omega arith; fewer = omega (arith, no_item xs e); none = (λ _. refl, λ _. e) }

pub on_err : {T E : Type 0} (r : Result T E) (P : Type 0) → P → OnErr r P
on_err (Ok x) P h = tt
on_err (Err e) P h = h

-- a set of the items of two sets, where those are seen under other names
pub merged_as : (a b s t r : Ids) → a ≡ s → b ≡ t → r.items ≡ a.items + b.items → r.ids ≡ different (a.ids ++ b.ids) → r ≡ merged_ids s t
merged_as a b s t r e f items ids = same_ids r (merged_ids a b) items ids ∙ (λ i. merged_ids (e i) (f i))

-- different numbers of a list and of a rising one behind it
pub different-joined : (xs ys : List ℕ) → IsStrictlySortedBy nat_cmp ys → different (xs ++ ys) ≡ different (different xs ++ ys)
different-joined xs ys up = ap (λ (s : Ids). s.ids) (ids_laws.joined xs ys) ∙ ap (λ l. different (different xs ++ l)) (different-rising ys up)
