-- What a filter keeps of a range.
use Rattle.std.proofs.Common.{◌≡◌, ℕ, zero, suc, ◌+◌, ◌-◌, ◌<◌, ◌≤◌, Bool, true, false, cond, List, [], ◌∷◌, ◌++◌, filter, Option, Some, None, refl, sym, ap, ◌∙◌, inl, inr, arith}
use Rattle.std.specs.Prelude.{slice_get}
use Rattle.std.specs.List.{range_with_len}
use Rattle.std.proofs.lemmas.Bool.{cases_Bool}
use Rattle.std.proofs.lemmas.List.{map-id, append-nil}
use Rattle.std.proofs.lemmas.List.FromFn.{map-range_with_len_more}
use Rattle.std.proofs.lemmas.List.Elements.{filter-append}
use Rattle.cuboid_tree.specs.Links.{first_from}

pub keeps : (q : ℕ → Bool) (a : ℕ) (xs : List ℕ) → q a ≡ true → filter q (a ∷ xs) ≡ a ∷ filter q xs
keeps q a xs h = ap (λ b. cond b (a ∷ filter q xs) (filter q xs)) h

pub drops : (q : ℕ → Bool) (a : ℕ) (xs : List ℕ) → q a ≡ false → filter q (a ∷ xs) ≡ filter q xs
drops q a xs h = ap (λ b. cond b (a ∷ filter q xs) (filter q xs)) h

-- one more at the end
range_more : (n : ℕ) → range_with_len 0 (n + 1) ≡ range_with_len 0 n ++ n ∷ []
range_more n =
    sym (map-id (range_with_len 0 (n + 1))) ∙ map-range_with_len_more (λ x. x) 0 n n (omega arith)
    ∙ ap (λ xs. xs ++ n ∷ []) (map-id (range_with_len 0 n))

pub kept_more : (q : ℕ → Bool) (n : ℕ) → q n ≡ true → filter q (range_with_len 0 (n + 1)) ≡ filter q (range_with_len 0 n) ++ n ∷ []
kept_more q n h =
    ap (filter q) (range_more n) ∙ filter-append q (range_with_len 0 n) (n ∷ []) ∙ ap (λ xs. filter q (range_with_len 0 n) ++ xs) (keeps q n [] h)

pub left_more : (q : ℕ → Bool) (n : ℕ) → q n ≡ false → filter q (range_with_len 0 (n + 1)) ≡ filter q (range_with_len 0 n)
left_more q n h =
    ap (filter q) (range_more n) ∙ filter-append q (range_with_len 0 n) (n ∷ []) ∙ ap (λ xs. filter q (range_with_len 0 n) ++ xs) (drops q n [] h)
    ∙ append-nil (filter q (range_with_len 0 n))

-- nothing is kept
pub none_kept : (q : ℕ → Bool) (a n : ℕ) → ((m : ℕ) → a ≤ m → m < a + n → q m ≡ false) → slice_get (filter q (range_with_len a n)) 0 ≡ None
none_kept q a zero h = refl
none_kept q a (suc n) h =
    ap (λ xs. slice_get xs 0) (drops q a (range_with_len (a + 1) n) (h a (omega arith) (omega arith)))
    ∙ none_kept q (a + 1) n (λ m from to. h m (omega arith) (omega arith))

-- what is kept passes, and lies in the range
passing_head : (q : ℕ → Bool) (a n : ℕ) (xs : List ℕ) (i k : ℕ) → ((k : ℕ) → slice_get xs k ≡ Some i → (q i ≡ true) × (a + 1 ≤ i) × (i < a + 1 + n)) → slice_get (a ∷ xs) k ≡ Some i → q a ≡ true → (q i ≡ true) × (a ≤ i) × (i < a + suc n)
passing_head q a n xs i zero later e h = let same : a ≡ i = cc in (ap q (sym same) ∙ h, omega arith, omega arith)
passing_head q a n xs i (suc k) later e h = let found = later k e in (found.0, omega (arith, found.1), omega (arith, found.2))

pub kept_passes : (q : ℕ → Bool) (a n k i : ℕ) → slice_get (filter q (range_with_len a n)) k ≡ Some i → (q i ≡ true) × (a ≤ i) × (i < a + n)
kept_passes q a zero k i e = absurd cc
kept_passes q a (suc n) k i e =
    elim (cases_Bool (q a)) [
      | inl passes ↦
          passing_head q a n (filter q (range_with_len (a + 1) n)) i k (λ m h. kept_passes q (a + 1) n m i h)
          (ap (λ xs. slice_get xs k) (sym (keeps q a (range_with_len (a + 1) n) passes)) ∙ e) passes
      | inr fails ↦
          (let later = kept_passes q (a + 1) n k i (ap (λ xs. slice_get xs k) (sym (drops q a (range_with_len (a + 1) n) fails)) ∙ e) in
          (later.0, omega (arith, later.1), omega (arith, later.2)))
    ]

-- the one that is kept after i, where the rest of the list gives it
next_head : (a : ℕ) (xs : List ℕ) (i k : ℕ) (r : Option ℕ) → (a ≡ i → slice_get xs 0 ≡ r) → ((k : ℕ) → slice_get xs k ≡ Some i → slice_get xs (suc k) ≡ r) → slice_get (a ∷ xs) k ≡ Some i → slice_get (a ∷ xs) (suc k) ≡ r
next_head a xs i zero r first later e = first cc
next_head a xs i (suc k) r first later e = later k e

-- the one that is kept after i is the first from i + 1 on
rest_after : (q : ℕ → Bool) (a n i : ℕ) → a ≡ i → slice_get (filter q (range_with_len (a + 1) n)) 0 ≡ first_from q (i + 1) (a + suc n)
unfolding first_from
rest_after q a n i same =
    let left : n ≡ a + suc n - (i + 1) = omega arith in
    ap (λ x. slice_get (filter q (range_with_len (x + 1) n)) 0) same ∙ ap (λ m. slice_get (filter q (range_with_len (i + 1) m)) 0) left

pub after_kept : (q : ℕ → Bool) (a n k i : ℕ) → slice_get (filter q (range_with_len a n)) k ≡ Some i → slice_get (filter q (range_with_len a n)) (suc k) ≡ first_from q (i + 1) (a + n)
after_kept q a zero k i e = absurd cc
after_kept q a (suc n) k i e =
    let end : a + 1 + n ≡ a + suc n = omega arith in
    elim (cases_Bool (q a)) [
      | inl passes ↦
          ap (λ xs. slice_get xs (suc k)) (keeps q a (range_with_len (a + 1) n) passes)
          ∙ next_head a (filter q (range_with_len (a + 1) n)) i k (first_from q (i + 1) (a + suc n)) (rest_after q a n i)
          (λ m at. after_kept q (a + 1) n m i at ∙ ap (first_from q (i + 1)) end)
          (ap (λ xs. slice_get xs k) (sym (keeps q a (range_with_len (a + 1) n) passes)) ∙ e)
      | inr fails ↦
          (let below = drops q a (range_with_len (a + 1) n) fails in
          ap (λ xs. slice_get xs (suc k)) below ∙ after_kept q (a + 1) n k i (ap (λ xs. slice_get xs k) (sym below) ∙ e) ∙ ap (first_from q (i + 1)) end)
    ]

-- ---- the first place from i on
one_less : (q : ℕ → Bool) (i n : ℕ) → i < n → first_from q i n ≡ slice_get (filter q (i ∷ range_with_len (i + 1) (n - (i + 1)))) 0
unfolding first_from
one_less q i n low = let more : n - i ≡ suc (n - (i + 1)) = omega arith in ap (λ m. slice_get (filter q (range_with_len i m)) 0) more

pub first_here : (q : ℕ → Bool) (i n : ℕ) → i < n → q i ≡ true → first_from q i n ≡ Some i
first_here q i n low h = one_less q i n low ∙ ap (λ xs. slice_get xs 0) (keeps q i (range_with_len (i + 1) (n - (i + 1))) h)

pub first_later : (q : ℕ → Bool) (i n : ℕ) → i < n → q i ≡ false → first_from q i n ≡ first_from q (i + 1) n
unfolding first_from
first_later q i n low h = one_less q i n low ∙ ap (λ xs. slice_get xs 0) (drops q i (range_with_len (i + 1) (n - (i + 1))) h)

pub first_past : (q : ℕ → Bool) (n : ℕ) → first_from q n n ≡ None
unfolding first_from
first_past q n = let none : n - n ≡ 0 = omega arith in ap (λ m. slice_get (filter q (range_with_len n m)) 0) none

pub first_of_all : (q : ℕ → Bool) (n : ℕ) → first_from q 0 n ≡ slice_get (filter q (range_with_len 0 n)) 0
unfolding first_from
first_of_all q n = let all : n - 0 ≡ n = omega arith in ap (λ m. slice_get (filter q (range_with_len 0 m)) 0) all
