-- Facts about the keys of rows.
use Rattle.std.proofs.Common.{◌≡◌, ◌<◌, ◌≤◌, ◌+◌, ◌&&◌, ℕ, zero, suc, List, [], ◌∷◌, Bool, true, false, not, refl, sym, ap, ◌∙◌, length, get_or, take, drop, min, arith}
use Rattle.std.specs.List.{list_any}
use Rattle.std.specs.Ordering.{is_eq, nat_cmp, ordering_then}
use Rattle.std.specs.Cmp.Lexicographic.{slice_cmp}
use Rattle.std.specs.declared.cmp.Ordering.{Ordering}
use Rattle.std.specs.declared.cmp.Ordering.TheVariants.{Less, Equal, Greater}
use Rattle.std.proofs.lemmas.Bool.Decides.{nat_tests}
use Rattle.std.proofs.lemmas.Cmp.{tied_itself}
use Rattle.std.proofs.lemmas.List.{drop_more, get_or-map, length-map, get_or-take, length-take-le, take-take}
use Rattle.std.proofs.lemmas.List.Folds.{Any-from_list_any, list_any-from_Any}
use Rattle.cube_val.proofs.OrderFacts.{row_cmp_exact}
use Rattle.cube_val.specs.Order.{row_cmp, val_cmp}
use Rattle.cube_val.specs.OrderLaws.{row_cmp_total}
use Rattle.cube_val.specs.declared.val.Val.{Val}
use Rattle.cube_val.specs.declared.val.Val.TheVariants.{Null}
use Rattle.table_reader.specs.Keys.{HasDistinctKeys, Repeats, has_null, key_of, val_at}

-- two lists from a place on are ordered by their items there, and then by what follows
pub slice_cmp-drop : {X : Type 0} (R : X → X → Ordering) (xs ys : List X) (i : ℕ) (d : X) → i < length xs → i < length ys
    → slice_cmp R (drop i xs) (drop i ys) ≡ ordering_then (R (get_or xs i d) (get_or ys i d)) (slice_cmp R (drop (i + 1) xs) (drop (i + 1) ys))
slice_cmp-drop R xs ys i d h k = rw (drop_more xs i d h, drop_more ys i d k) refl

-- where one of them has ended, their lengths decide
pub slice_cmp-ends : {X : Type 0} (R : X → X → Ordering) (n : ℕ) (xs ys : List X) → n ≡ min (length xs) (length ys)
    → slice_cmp R (drop n xs) (drop n ys) ≡ nat_cmp (length xs) (length ys)
slice_cmp-ends R zero [] [] h = refl
slice_cmp-ends R zero [] (y ∷ ys) h = grind (arith, nat_tests)
slice_cmp-ends R zero (x ∷ xs) [] h = grind (arith, nat_tests)
slice_cmp-ends R zero (x ∷ xs) (y ∷ ys) h = absurd (omega arith)
slice_cmp-ends R (suc n) [] ys h = absurd (omega arith)
slice_cmp-ends R (suc n) (x ∷ xs) [] h = absurd (omega arith)
slice_cmp-ends R (suc n) (x ∷ xs) (y ∷ ys) h =
    let rest = slice_cmp-ends R n xs ys (omega arith) in
    let same : nat_cmp (length xs) (length ys) ≡ nat_cmp (suc (length xs)) (suc (length ys)) = grind (arith, nat_tests) in
    rest ∙ same

-- the value of a key at a place
get_or-key : (places : List ℕ) (row : List Val) (i : ℕ) → i < length places → get_or (key_of places row) i Null ≡ val_at row (get_or places i 0)
get_or-key places row i h = get_or-map (val_at row) places i 0 Null h

-- keys from a place on are ordered by their values there, and then by what follows
pub keys_step : (places : List ℕ) (row : List Val) (others : List ℕ) (other : List Val) (i : ℕ) (o : Ordering) → i < length places → i < length others
    → val_cmp (val_at row (get_or places i 0)) (val_at other (get_or others i 0)) ≡ o
    → row_cmp (drop i (key_of places row)) (drop i (key_of others other)) ≡ ordering_then o (row_cmp (drop (i + 1) (key_of places row)) (drop (i + 1) (key_of others other)))
keys_step places row others other i o h k e =
    let xs = key_of places row in
    let ys = key_of others other in
    let first : i < length xs = rw (length-map places (val_at row)) h in
    let second : i < length ys = rw (length-map others (val_at other)) k in
    slice_cmp-drop val_cmp xs ys i Null first second
    ∙ ap (λ o. ordering_then o (row_cmp (drop (i + 1) xs) (drop (i + 1) ys))) (rw (get_or-key places row i h, get_or-key others other i k) e)

pub keys_end : (places : List ℕ) (row : List Val) (others : List ℕ) (other : List Val) (n : ℕ) → n ≡ min (length places) (length others)
    → row_cmp (drop n (key_of places row)) (drop n (key_of others other)) ≡ nat_cmp (length places) (length others)
keys_end places row others other n h =
    let first = length-map places (val_at row) in
    let second = length-map others (val_at other) in
    slice_cmp-ends val_cmp n (key_of places row) (key_of others other) (rw (first, second) h) ∙ rw (first, second) refl

equal_from_is_eq : (o : Ordering) → is_eq o ≡ true → o ≡ Equal
equal_from_is_eq Less h = cc h
equal_from_is_eq Equal h = refl
equal_from_is_eq Greater h = cc h

both_true : (a b : Bool) → (a && b) ≡ true → (a ≡ true) × (b ≡ true)
both_true true true h = (refl, refl)
both_true true false h = cc h
both_true false b h = cc h

-- a row with a key that has no null and compares equal
abbrev pub is_keyed_by : List ℕ → List Val → List Val → Bool
is_keyed_by places key row = not (has_null (key_of places row)) && is_eq (row_cmp (key_of places row) key)

pub repeats_from_test : (places : List ℕ) (rows : List (List Val)) (row : List Val) → (places ≡ [] → ⊥)
    → (not (has_null (key_of places row)) && list_any (is_keyed_by places (key_of places row)) rows) ≡ true → Repeats places rows row
repeats_from_test places rows row there h =
    let both = both_true _ _ h in
    let found = Any-from_list_any (is_keyed_by places (key_of places row)) rows both.1 in
    let same = both_true _ _ found.4 in
    let no_null : has_null (key_of places row) ≡ false = not_true (has_null (key_of places row)) both.0 in
    (there, no_null, (found.0, found.1, found.2, found.3, row_cmp_exact _ _ (equal_from_is_eq _ same.1)))
  where
    not_true : (b : Bool) → not b ≡ true → b ≡ false
    not_true true e = sym e
    not_true false e = refl

pub no_repeat_from_test : (places : List ℕ) (rows : List (List Val)) (row : List Val)
    → (not (has_null (key_of places row)) && list_any (is_keyed_by places (key_of places row)) rows) ≡ false → Repeats places rows row → ⊥
no_repeat_from_test places rows row h r =
    let earlier = r.2.1 in
    let same : key_of places earlier ≡ key_of places row = r.2.4 in
    let test : is_keyed_by places (key_of places row) earlier ≡ true = rw (same, r.1, tied_itself row_cmp_total (key_of places row)) refl in
    let any = list_any-from_Any (is_keyed_by places (key_of places row)) rows (r.2.0, earlier, r.2.2, r.2.3, test) in
    let false_true : false ≡ true = sym (rw (r.1, any) at h) in
    cc false_true

-- rows before a place, none of which repeats a key
pub distinct_front : (places : List ℕ) (rows : List (List Val)) (n : ℕ) → n ≤ length rows
    → ((k : ℕ) → k < n → Repeats places (take k rows) (get_or rows k []) → ⊥) → HasDistinctKeys places (take n rows)
distinct_front places rows n few before k small r =
    let short = length-take-le n rows few in
    let less : k < n = omega arith in
    let fronts : take k (take n rows) ≡ take k rows = take-take k n rows (omega arith) in
    let item : get_or (take n rows) k [] ≡ get_or rows k [] = get_or-take n rows k [] less in
    before k less (rw (fronts, item) at r)
