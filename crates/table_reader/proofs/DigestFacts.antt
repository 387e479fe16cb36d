-- Rows whose keys have digests that differ have keys that differ.
use Rattle.std.proofs.Common.{◌≡◌, ◌<◌, ◌++◌, ℕ, List, [], ◌∷◌, refl, true, false, get_or, sym, ap, ◌∙◌, map, arith}
use Rattle.std.specs.List.{IsDistinct}
use Rattle.std.specs.List.Sorted.{IsPermutation, IsStrictlyIncreasing}
use Rattle.std.specs.Ordering.{eq_by_cmp, is_eq, nat_cmp}
use Rattle.std.proofs.lemmas.Cmp.{nat_cmp_total, tied_itself}
use Rattle.std.proofs.lemmas.Bool.Decides.{nat_tests}
use Rattle.std.proofs.lemmas.List.{get_or_default, get_or-map, get_or-take, length-map, length-take-le, map-append}
use Rattle.std.proofs.lemmas.List.Sorted.{IsPermutation-sym}
use Rattle.std.proofs.lemmas.Map.Keys.{IsDistinct-from_sorted, IsDistinct-IsPermutation, apart_from_distinct, sorted_from_strictly_increasing}
use Rattle.cube_val.specs.declared.val.Val.{Val}
use Rattle.table_reader.specs.Digests.{digest_of, digests_of, row_digest}
use Rattle.table_reader.specs.Keys.{HasDistinctKeys}

-- numbers that rise once they are in order differ as they stand
apart_from_rising : (numbers rising : List ℕ) → IsPermutation numbers rising → IsStrictlyIncreasing rising → IsDistinct (eq_by_cmp nat_cmp) numbers
apart_from_rising numbers rising moved up =
    let apart = IsDistinct-from_sorted nat_cmp rising (sorted_from_strictly_increasing rising up) in
    IsDistinct-IsPermutation (eq_by_cmp nat_cmp) (λ x y. grind (arith, nat_tests)) rising numbers (IsPermutation-sym numbers rising moved) apart

distinct_from_row_digests : (places : List ℕ) (rows : List (List Val)) (rising : List ℕ) → IsPermutation (map (row_digest places) rows) rising
    → IsStrictlyIncreasing rising → HasDistinctKeys places rows
distinct_from_row_digests places rows rising moved up i small r =
    let digests = map (row_digest places) rows in
    let size = length-map rows (row_digest places) in
    let short = length-take-le i rows (omega arith) in
    let k = r.2.0 in
    let before : k < i = omega (arith, r.2.2) in
    let there : get_or rows k [] ≡ r.2.1 = get_or_default rows k [] r.2.1 (omega arith) ∙ sym (get_or-take i rows k r.2.1 before) ∙ r.2.3 in
    let low : get_or digests k 0 ≡ row_digest places r.2.1 = get_or-map (row_digest places) rows k [] 0 (omega arith) ∙ ap (row_digest places) there in
    let high : get_or digests i 0 ≡ row_digest places (get_or rows i []) = get_or-map (row_digest places) rows i [] 0 small in
    let same : get_or digests k 0 ≡ get_or digests i 0 = low ∙ ap digest_of r.2.4 ∙ sym high in
    let apart : is_eq (nat_cmp (get_or digests k 0) (get_or digests i 0)) ≡ false =
    apart_from_distinct (eq_by_cmp nat_cmp) digests k i 0 (apart_from_rising digests rising moved up) before (omega arith) in
    let tied : is_eq (nat_cmp (get_or digests k 0) (get_or digests i 0)) ≡ true = rw same (ap is_eq (tied_itself nat_cmp_total (get_or digests i 0))) in
    let clash : false ≡ true = sym apart ∙ tied in
    cc clash

pub distinct_from_digests : (places : List ℕ) (rows : List (List Val)) (rising : List ℕ) → IsPermutation (digests_of places rows) rising
    → IsStrictlyIncreasing rising → HasDistinctKeys places rows
distinct_from_digests [] rows rising moved up = λ i small r. r.0 refl
distinct_from_digests (place ∷ places) rows rising moved up = distinct_from_row_digests (place ∷ places) rows rising moved up

-- one more row has one more digest
pub digests_of-push : (places : List ℕ) (rows : List (List Val)) (row : List Val) → (places ≡ [] → ⊥)
    → digests_of places (rows ++ row ∷ []) ≡ digests_of places rows ++ row_digest places row ∷ []
digests_of-push [] rows row there = absurd (there refl)
digests_of-push (place ∷ places) rows row there = map-append (row_digest (place ∷ places)) rows (row ∷ [])

-- where a key has no column, a row more has no digest
pub digests_of-none : (places : List ℕ) (rows more : List (List Val)) → places ≡ [] → digests_of places rows ≡ digests_of places more
digests_of-none [] rows more e = refl
digests_of-none (place ∷ places) rows more e = cc e

pub digests_of-empty : (places : List ℕ) → digests_of places [] ≡ []
digests_of-empty [] = refl
digests_of-empty (place ∷ places) = refl
