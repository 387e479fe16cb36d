-- The distinct values of a column, from values most of which stand once, and the numbers that are looked up.
use Rattle.std.proofs.Common.{◌≡◌, ◌<◌, ◌+◌, ◌∙◌, ℕ, zero, suc, List, [], ◌∷◌, ◌++◌, length, get_or, map, take, drop, min, Bool, true, false, ◌||◌, refl, sym, ap, subst, arith}
use Rattle.std.specs.Prelude.{Contains}
use Rattle.std.specs.List.{list_any}
use Rattle.std.specs.Ordering.{eq_by_cmp, nat_cmp, ordering_then}
use Rattle.std.specs.declared.cmp.Ordering.{Ordering}
use Rattle.cell_store.specs.Cells.{key_cmp}
use Rattle.std.specs.Cmp.Lexicographic.{slice_cmp}
use Rattle.std.proofs.lemmas.List.{drop_more, map-append, take_more}
use Rattle.std.proofs.lemmas.Bool.Decides.{nat_tests}
use Rattle.std.proofs.lemmas.List.Folds.{list_any-append}
use Rattle.cube_val.specs.declared.val.Val.{Val}
use Rattle.cube_val.specs.Order.{val_cmp}
use Rattle.cube_val.specs.OrderLaws.{val_cmp_total}
use Rattle.cube_val.proofs.OrderFacts.{val_cmp_exact, val_cmp_same, val_eq_exact}
use Rattle.aggregation.proofs.GroupFacts.{distinct_alike}
use Rattle.dim_dictionary.specs.Dictionaries.{IsDictionary, dictionary_of}
use Rattle.dim_dictionary.proofs.DictLemmas.{count_to_found, found_from}
use Rattle.layer_builder.specs.Base.{number_in}

-- two lists have the same values
abbrev pub AreAlike : List Val → List Val → Type 0
AreAlike xs ys = (q : Val) → list_any (eq_by_cmp val_cmp q) xs ≡ list_any (eq_by_cmp val_cmp q) ys

pub alike_dictionary : (xs ys : List Val) → AreAlike xs ys → dictionary_of xs ≡ dictionary_of ys
alike_dictionary xs ys same = distinct_alike val_cmp_total val_cmp_exact xs ys same

-- one more value of both
pub alike_pushed : (xs ys : List Val) (v : Val) → AreAlike xs ys → AreAlike (xs ++ v ∷ []) (ys ++ v ∷ [])
alike_pushed xs ys v same q =
    let t = eq_by_cmp val_cmp q in
    list_any-append t xs (v ∷ []) ∙ ap (λ b. b || list_any t (v ∷ [])) (same q) ∙ sym (list_any-append t ys (v ∷ []))

absorbed : (xs : List Val) (v q : Val) → Contains xs v → (list_any (eq_by_cmp val_cmp q) xs || (eq_by_cmp val_cmp q v || false)) ≡ list_any (eq_by_cmp val_cmp q) xs
absorbed xs v q there = by (eq_by_cmp val_cmp q v) refl (list_any (eq_by_cmp val_cmp q) xs) refl
  where
    by : (b : Bool) → eq_by_cmp val_cmp q v ≡ b → (c : Bool) → list_any (eq_by_cmp val_cmp q) xs ≡ c → (c || (b || false)) ≡ c
    by true e true f = refl
    by true e false f = let same : q ≡ v = val_eq_exact q v e in sym (found_from xs q (subst (λ (w : Val). Contains xs w) (sym same) there)) ∙ f
    by false e true f = refl
    by false e false f = refl

-- one that is there already
pub alike_found : (xs ys : List Val) (v : Val) → AreAlike xs ys → Contains xs v → AreAlike xs (ys ++ v ∷ [])
alike_found xs ys v same there q =
    let t = eq_by_cmp val_cmp q in
    sym (absorbed xs v q there) ∙ ap (λ b. b || list_any t (v ∷ [])) (same q) ∙ sym (list_any-append t ys (v ∷ []))

-- one more row
pub column_more : {R X : Type 0} (f : R → X) (rows : List R) (i : ℕ) (row : R) → i < length rows → row ≡ get_or rows i row → map f (take (i + 1) rows) ≡ map f (take i rows) ++ f row ∷ []
column_more f rows i row lt is =
    ap (map f) (take_more rows i row lt ∙ ap (λ r. take i rows ++ r ∷ []) (sym is)) ∙ map-append f (take i rows) (row ∷ [])

-- the number of a value that stands at a place of a dictionary
pub number_at_place : (dict : List Val) (i : ℕ) (v w : Val) → IsDictionary dict → i < length dict → ((d : Val) → w ≡ get_or dict i d) → w ≡ v → number_in dict v ≡ i
number_at_place dict i v w kept lt at same = count_to_found dict i v kept.rising lt (λ d. ap (λ x. val_cmp x v) (sym (at d) ∙ same) ∙ val_cmp_same v)

-- ---- keys, number by number

slice_cmp-drop : {X : Type 0} (R : X → X → Ordering) (xs ys : List X) (i : ℕ) (d : X) → i < length xs → i < length ys
    → slice_cmp R (drop i xs) (drop i ys) ≡ ordering_then (R (get_or xs i d) (get_or ys i d)) (slice_cmp R (drop (i + 1) xs) (drop (i + 1) ys))
slice_cmp-drop R xs ys i d h k = rw (drop_more xs i d h, drop_more ys i d k) refl

-- where one of them has ended, their lengths decide
slice_cmp-ends : {X : Type 0} (R : X → X → Ordering) (n : ℕ) (xs ys : List X) → n ≡ min (length xs) (length ys)
    → slice_cmp R (drop n xs) (drop n ys) ≡ nat_cmp (length xs) (length ys)
slice_cmp-ends R zero [] [] h = refl
slice_cmp-ends R zero [] (y ∷ ys) h = grind (arith, nat_tests)
slice_cmp-ends R zero (x ∷ xs) [] h = grind (arith, nat_tests)
slice_cmp-ends R zero (x ∷ xs) (y ∷ ys) h = absurd (omega arith)
slice_cmp-ends R (suc n) [] ys h = absurd (omega arith)
slice_cmp-ends R (suc n) (x ∷ xs) [] h = absurd (omega arith)
slice_cmp-ends R (suc n) (x ∷ xs) (y ∷ ys) h =
    let rest = slice_cmp-ends R n xs ys (omega arith) in
    let same : nat_cmp (length xs) (length ys) ≡ nat_cmp (suc (length xs)) (suc (length ys)) = grind (arith, nat_tests) in
    rest ∙ same

-- keys from a place on are ordered by their numbers there, and then by what follows
pub order_step : (a b : List ℕ) (i : ℕ) (o : Ordering) → i < length a → i < length b → nat_cmp (get_or a i 0) (get_or b i 0) ≡ o
    → key_cmp (drop i a) (drop i b) ≡ ordering_then o (key_cmp (drop (i + 1) a) (drop (i + 1) b))
order_step a b i o first second e = slice_cmp-drop nat_cmp a b i 0 first second ∙ ap (λ o. ordering_then o (key_cmp (drop (i + 1) a) (drop (i + 1) b))) e

pub order_end : (a b : List ℕ) (n : ℕ) → n ≡ min (length a) (length b) → key_cmp (drop n a) (drop n b) ≡ nat_cmp (length a) (length b)
order_end a b n h = slice_cmp-ends nat_cmp n a b h
