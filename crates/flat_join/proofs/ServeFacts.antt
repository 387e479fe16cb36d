-- What snapshots of lookups find.
use Rattle.std.proofs.Common.{◌≡◌, ◌≢◌, ◌<◌, ◌+◌, ℕ, zero, suc, List, [], ◌∷◌, ◌++◌, Bool, true, false, not, length, get_or, take, map, Option, Some, None, refl, sym, ap, subst, ◌∙◌, arith, zero-add}
use Rattle.std.specs.Prelude.{◌&&◌, All, find, zip, if◌then◌else◌}
use Rattle.std.specs.List.{AllByRecursion, AllZip, range_with_len}
use Rattle.std.specs.Option.{option_or}
use Rattle.std.specs.Ordering.{is_eq}
use Rattle.std.specs.declared.cmp.Ordering.{Ordering}
use Rattle.std.specs.declared.cmp.Ordering.TheVariants.{Less, Equal, Greater}
use Rattle.std.proofs.lemmas.List.{get_or_default, map_push}
use Rattle.std.proofs.lemmas.List.FromFn.{get_or-map-range_with_len, get_or-range_with_len, length-map-range_with_len, length-range_with_len, map-range_with_len_more}
use Rattle.std.proofs.lemmas.List.Elements.{recursion_from_All}
use Rattle.cube_val.proofs.OrderFacts.{row_cmp_exact}
use Rattle.cube_val.specs.Order.{row_cmp}
use Rattle.cube_val.specs.declared.form.JoinStep.{JoinStep}
use Rattle.cube_val.specs.declared.val.Val.{Val}
use Rattle.cube_val.specs.declared.val.Val.TheVariants.{Null}
use Rattle.flat_join.specs.Joins.{is_match, matches_of}
use Rattle.lookup_snap.specs.Snaps.{has_key, value_in, values_for}
use Rattle.table_reader.specs.Keys.{HasDistinctKeys, has_null, key_of, val_at}
use Rattle.table_reader.proofs.RowFacts.{zip_push}
use Rattle.flat_join.specs.Partners.{AreServed, Entries, IsServed, found_in}

-- ---- keys

equal_from_is_eq : (o : Ordering) → is_eq o ≡ true → o ≡ Equal
equal_from_is_eq Less h = cc h
equal_from_is_eq Equal h = refl
equal_from_is_eq Greater h = cc h

both_true : (a b : Bool) → (a && b) ≡ true → (a ≡ true) × (b ≡ true)
both_true true b h = (refl, h)
both_true false b h = cc h

not_true : (b : Bool) → not b ≡ true → b ≡ false
not_true true e = sym e
not_true false e = refl

-- a row that has a key has no null in it
keyed : (places : List ℕ) (row q : List Val) → has_key places row q ≡ true → (has_null (key_of places row) ≡ false) × (key_of places row ≡ q)
keyed places row q h =
    let b = both_true (not (has_null (key_of places row))) (is_eq (row_cmp (key_of places row) q)) h in
    (not_true (has_null (key_of places row)) b.0, row_cmp_exact (key_of places row) q (equal_from_is_eq (row_cmp (key_of places row) q) b.1))

-- ---- one row of a key

distinct_rest : (places : List ℕ) (row : List Val) (rows : List (List Val)) → HasDistinctKeys places (row ∷ rows) → HasDistinctKeys places rows
distinct_rest places row rows distinct = λ i h r. distinct (suc i) (omega arith) (r.0, r.1, (suc r.2.0, r.2.1, omega (arith, r.2.2), r.2.3, r.2.4))

none_has : (places cols : List ℕ) (q : List Val) (rows : List (List Val)) → AllByRecursion (λ x. has_key places x q ≡ false) rows → values_for places cols rows q ≡ None
none_has places cols q [] a = refl
none_has places cols q (x ∷ rows) a = rw (none_has places cols q rows a.1, a.0) refl

false_unless : (b : Bool) → (b ≡ true → ⊥) → b ≡ false
false_unless true h = absurd (h refl)
false_unless false h = refl

later_not : (places : List ℕ) (row q : List Val) (rows : List (List Val)) → places ≢ [] → HasDistinctKeys places (row ∷ rows) → has_key places row q ≡ true
    → All (λ x. has_key places x q ≡ false) rows
later_not places row q rows there distinct h k d small =
    let own = keyed places row q h in
    let default : get_or rows k d ≡ get_or rows k [] = get_or_default rows k d [] small in
    subst (λ (x : List Val). has_key places x q ≡ false) (sym default)
    (false_unless (has_key places (get_or rows k []) q) (λ e.
    let other = keyed places (get_or rows k []) q e in
    distinct (suc k) (omega arith) (there, other.0, (0, row, omega arith, refl, own.1 ∙ sym other.1))))

by_case : (places cols : List ℕ) (row q : List Val) (rows : List (List Val)) (b : Bool) → has_key places row q ≡ b → key_of cols row ≡ row
    → (b ≡ true → values_for places cols rows q ≡ None) → values_for places cols rows q ≡ find (λ x. is_match (key_of places x) q) rows
    → option_or (values_for places cols rows q) (if b then Some (key_of cols row) else None) ≡ (if b then Some row else find (λ x. is_match (key_of places x) q) rows)
by_case places cols row q rows true same whole none rest = rw (none refl) (ap Some whole)
by_case places cols row q rows false same whole none rest = or_none (values_for places cols rows q) ∙ rest
  where
    or_none : {A : Type 0} (o : Option A) → option_or o None ≡ o
    or_none None = refl
    or_none (Some x) = refl

-- of rows with distinct keys, the last one that has the key is the first
pub values_for-whole : (places cols : List ℕ) (rows : List (List Val)) (q : List Val) → places ≢ [] → AllByRecursion (λ row. key_of cols row ≡ row) rows
    → HasDistinctKeys places rows → values_for places cols rows q ≡ find (λ row. is_match (key_of places row) q) rows
values_for-whole places cols [] q there whole distinct = refl
values_for-whole places cols (row ∷ rows) q there whole distinct =
    by_case places cols row q rows (has_key places row q) refl whole.0
    (λ e. none_has places cols q rows (recursion_from_All (λ x. has_key places x q ≡ false) rows (later_not places row q rows there distinct e)))
    (values_for-whole places cols rows q there whole.1 (distinct_rest places row rows distinct))

-- ---- whole rows

-- a list is its items at all places
all_places : (row : List Val) (xs : List Val) (w : ℕ) → length row ≡ w → length xs ≡ w → ((i : ℕ) → i < w → get_or xs i Null ≡ get_or row i Null) → xs ≡ row
all_places [] [] w e n h = refl
all_places [] (x ∷ xs) w e n h = absurd (omega arith)
all_places (r ∷ row) [] w e n h = absurd (omega arith)
all_places (r ∷ row) (x ∷ xs) zero e n h = absurd (omega arith)
all_places (r ∷ row) (x ∷ xs) (suc w) e n h =
    let head : x ≡ r = h 0 (omega arith) in
    let rest = all_places row xs w (omega arith) (omega arith) (λ i k. h (suc i) (omega arith)) in
    λ i. head i ∷ rest i

-- the values of a row at all of its places are the row
pub key_of-all : (row : List Val) (w : ℕ) → length row ≡ w → key_of (range_with_len 0 w) row ≡ row
key_of-all row w e =
    all_places row (key_of (range_with_len 0 w) row) w e (length-map-range_with_len (val_at row) 0 w)
    (λ i h. get_or-map-range_with_len (val_at row) 0 w i i Null h (zero-add i))

pub whole_rows : (rows : List (List Val)) (w : ℕ) → AllByRecursion (λ row. length row ≡ w) rows → AllByRecursion (λ row. key_of (range_with_len 0 w) row ≡ row) rows
whole_rows [] w a = tt
whole_rows (row ∷ rows) w a = (key_of-all row w a.0, whole_rows rows w a.1)

-- ---- the lookups in turn

zip_more : {A B : Type 0} (xs : List A) (ys : List B) (i : ℕ) (x : A) (y : B) → i < length xs → i < length ys
    → zip (take (suc i) xs) (take (suc i) ys) ≡ zip (take i xs) (take i ys) ++ (get_or xs i x, get_or ys i y) ∷ []
zip_more [] ys i x y h k = absurd (omega arith)
zip_more (a ∷ xs) [] i x y h k = absurd (omega arith)
zip_more (a ∷ xs) (b ∷ ys) zero x y h k = refl
zip_more (a ∷ xs) (b ∷ ys) (suc i) x y h k = ap (λ zs. (a, b) ∷ zs) (zip_more xs ys i x y (omega arith) (omega arith))

pub found_in-more : (joins : List JoinStep) (snaps : List Entries) (fact : List Val) (i n : ℕ) (j : JoinStep) (s : Entries) → n ≡ suc i → i < length joins → i < length snaps
    → found_in (take n joins) (take n snaps) fact ≡ found_in (take i joins) (take i snaps) fact ++ value_in (get_or snaps i s) (key_of (get_or joins i j).foreign fact) ∷ []
found_in-more joins snaps fact i n j s e h k =
    rw e (ap (map (λ (pair : JoinStep × Entries). value_in pair.1 (key_of pair.0.foreign fact))) (zip_more joins snaps i j s h k)
    ∙ map_push (λ (pair : JoinStep × Entries). value_in pair.1 (key_of pair.0.foreign fact)) (zip (take i joins) (take i snaps)) (get_or joins i j, get_or snaps i s))

pub served-more : (joins : List JoinStep) (lookups : List (List (List Val))) (snaps : List Entries) (i n : ℕ) (j : JoinStep) (t : List (List Val)) (s : Entries) → n ≡ suc i
    → i < length joins → i < length lookups → AreServed (take i joins) (take i lookups) snaps → IsServed (get_or joins i j, get_or lookups i t) s
    → AreServed (take n joins) (take n lookups) (snaps ++ s ∷ [])
served-more joins lookups snaps i n j t s e h k before new =
    rw e (subst (λ (pairs : List (JoinStep × List (List Val))). AllZip IsServed pairs (snaps ++ s ∷ [])) (sym (zip_more joins lookups i j t h k))
    (zip_push IsServed (zip (take i joins) (take i lookups)) snaps (get_or joins i j, get_or lookups i t) s before new))

-- what snapshots find is what a search through all rows finds
pub found_in-is : (joins : List JoinStep) (lookups : List (List (List Val))) (snaps : List Entries) (fact : List Val) → AreServed joins lookups snaps
    → found_in joins snaps fact ≡ matches_of joins lookups fact
found_in-is [] lookups snaps fact a = refl
found_in-is (j ∷ js) [] [] fact a = refl
found_in-is (j ∷ js) [] (s ∷ ss) fact a = absurd a
found_in-is (j ∷ js) (t ∷ ts) [] fact a = absurd a
found_in-is (j ∷ js) (t ∷ ts) (s ∷ ss) fact a =
    let head = a.0 (key_of j.foreign fact) in
    let rest = found_in-is js ts ss fact a.1 in
    λ i. head i ∷ rest i

pub served_length : (joins : List JoinStep) (lookups : List (List (List Val))) (snaps : List Entries) → length lookups ≡ length joins → AreServed joins lookups snaps → length joins ≡ length snaps
served_length [] lookups [] e a = refl
served_length [] lookups (s ∷ ss) e a = absurd a
served_length (j ∷ js) [] snaps e a = absurd (omega arith)
served_length (j ∷ js) (t ∷ ts) [] e a = absurd a
served_length (j ∷ js) (t ∷ ts) (s ∷ ss) e a = ap suc (served_length js ts ss (omega arith) a.1)

-- ---- as the code goes

-- one join more
pub found_pushed : (joins : List JoinStep) (snaps : List Entries) (fact : List Val) (i n : ℕ) (j : JoinStep) (s : Entries) (found new : List (Option (List Val))) (p : Option (List Val))
    → n ≡ suc i → i < length joins → i < length snaps → j ≡ get_or joins i j → s ≡ get_or snaps i s → found ≡ found_in (take i joins) (take i snaps) fact
    → p ≡ value_in s (key_of j.foreign fact) → new ≡ found ++ p ∷ [] → new ≡ found_in (take n joins) (take n snaps) fact
found_pushed joins snaps fact i n j s found new p e h k ej es before own pushed =
    let value : p ≡ value_in (get_or snaps i s) (key_of (get_or joins i j).foreign fact) = own ∙ (λ t. value_in (es t) (key_of (ej t).foreign fact)) in
    pushed ∙ (λ t. before t ++ value t ∷ []) ∙ sym (found_in-more joins snaps fact i n j s e h k)

map_self : (xs : List ℕ) → map (λ x. x) xs ≡ xs
map_self [] = refl
map_self (x ∷ xs) = ap (λ zs. x ∷ zs) (map_self xs)

pub range_more : (n : ℕ) → range_with_len 0 (n + 1) ≡ range_with_len 0 n ++ n ∷ []
range_more n =
    sym (map_self (range_with_len 0 (n + 1))) ∙ map-range_with_len_more (λ x. x) 0 n n (zero-add n) ∙ ap (λ xs. xs ++ n ∷ []) (map_self (range_with_len 0 n))

places_below : (w : ℕ) → All (λ place. place < w) (range_with_len 0 w)
places_below w k d h =
    let small : k < w = subst (λ (n : ℕ). k < n) (length-range_with_len 0 w) h in
    let at = get_or-range_with_len 0 w k d small in
    omega arith

pub places_within : (places : List ℕ) (w : ℕ) → places ≡ range_with_len 0 w → All (λ place. place < w) places
places_within places w e = subst (λ (ps : List ℕ). All (λ place. place < w) ps) (sym e) (places_below w)

-- the snapshot of whole rows finds the row of a key
pub whole_is_found : (primary places : List ℕ) (w : ℕ) (rows : List (List Val)) (q : List Val) → 0 < length primary → places ≡ range_with_len 0 w → All (λ row. length row ≡ w) rows
    → HasDistinctKeys primary rows → values_for primary places rows q ≡ find (λ row. is_match (key_of primary row) q) rows
whole_is_found primary places w rows q some e whole distinct =
    let there : primary ≢ [] = λ none. let z = ap length none in omega arith in
    ap (λ (ps : List ℕ). values_for primary ps rows q) e
    ∙ values_for-whole primary (range_with_len 0 w) rows q there (whole_rows rows w (recursion_from_All (λ row. length row ≡ w) rows whole)) distinct

-- one lookup more
pub served_pushed : (joins : List JoinStep) (lookups : List (List (List Val))) (snaps new : List Entries) (i n : ℕ) (j : JoinStep) (t : List (List Val)) (s : Entries) (primary : List ℕ)
    → n ≡ suc i → i < length joins → i < length lookups → j ≡ get_or joins i j → t ≡ get_or lookups i t → primary ≡ j.primary → AreServed (take i joins) (take i lookups) snaps
    → ((key : List Val) → value_in s key ≡ find (λ row. is_match (key_of primary row) key) t) → new ≡ snaps ++ s ∷ [] → AreServed (take n joins) (take n lookups) new
served_pushed joins lookups snaps new i n j t s primary e h k ej et ep before own pushed =
    let served : IsServed (get_or joins i j, get_or lookups i t) s = λ key.
    own key ∙ (λ x. find (λ row. is_match (key_of (ep x) row) key) t) ∙ (λ x. find (λ row. is_match (key_of (ej x).primary row) key) (et x)) in
    subst (λ (ss : List Entries). AreServed (take n joins) (take n lookups) ss) (sym pushed) (served-more joins lookups snaps i n j t s e h k before served)
