-- How a merge of dictionaries goes on and ends, and what the new numbers keep.
use Rattle.std.proofs.Common.{◌≡◌, ◌≤◌, ◌<◌, ◌+◌, ◌∙◌, ℕ, zero, suc, List, [], ◌∷◌, ◌++◌, map, length, get_or, take, drop, Bool, true, false, ◌||◌, refl, sym, ap, subst, arith, Some, None, append-nil}
use Rattle.std.specs.declared.cmp.Ordering.{Ordering}
use Rattle.std.specs.declared.cmp.Ordering.TheVariants.{Less, Equal, Greater}
use Rattle.std.specs.List.{All, AllZip, Contains, flat_map, list_any, slice_get}
use Rattle.std.specs.List.Sorted.{IsStrictlySortedBy}
use Rattle.std.specs.Ordering.{eq_by_cmp, nat_cmp}
use Rattle.std.proofs.lemmas.Cmp.{ranked}
use Rattle.std.proofs.lemmas.List.{drop_all, drop_more, get_or-map, flat_map_more, get_or_default, length-map, map-append, map_push, take_all, take_more}
use Rattle.std.proofs.lemmas.List.Folds.{list_any-append}
use Rattle.std.proofs.lemmas.Map.Keys.{sorted_from_strictly_increasing}
use Rattle.cube_val.specs.declared.val.Val.{Val}
use Rattle.cube_val.specs.Order.{val_cmp}
use Rattle.cube_val.specs.OrderLaws.{val_cmp_total}
use Rattle.cube_val.proofs.OrderFacts.{val_cmp_exact}
use Rattle.measure_laws.specs.RisingFacts.{rising_at}
use Rattle.aggregation.specs.Groups.{distinct}
use Rattle.aggregation.proofs.GroupFacts.{any-distinct, distinct_alike}
use Rattle.aggregation.proofs.DistinctFacts.{IsMerging, merging_ends_left, merging_ends_right, merging_takes_both, merging_takes_left, merging_takes_right}
use Rattle.dim_dictionary.specs.Dictionaries.{KeepsValues, merged_dictionary}
use Rattle.dim_dictionary.proofs.DictLemmas.{found_from, keeps_order, keeps_values, there_from}

abbrev pub Merging : List Val → List Val → List Val → List Val → Type 0
Merging = IsMerging val_cmp_total val_cmp_exact

module _ {X : Type 0} (f : X → Val) where
  at_step : (xs : List X) (i : ℕ) (x : X) → i < length xs → x ≡ get_or xs i x → map f (drop i xs) ≡ f x ∷ map f (drop (i + 1) xs)
  at_step xs i x lt at = ap (map f) (drop_more xs i x lt) ∙ ap (λ y. f y ∷ map f (drop (i + 1) xs)) (sym at)

  pushed : (done xs : List X) (i : ℕ) (x z : X) → i < length xs → x ≡ get_or xs i x → z ≡ get_or xs i z → map f done ++ f x ∷ [] ≡ map f (done ++ z ∷ [])
  pushed done xs i x z lt at_x at_z =
      let same : z ≡ x = at_z ∙ get_or_default xs i z x lt ∙ sym at_x in
      sym (map_push f done z ∙ ap (λ w. map f done ++ f w ∷ []) same)

  here : (done xs ys : List X) (whole : List Val) (i j : ℕ) (x y : X) → i < length xs → j < length ys → x ≡ get_or xs i x → y ≡ get_or ys j y
      → Merging (map f done) (map f (drop i xs)) (map f (drop j ys)) whole → Merging (map f done) (f x ∷ map f (drop (i + 1) xs)) (f y ∷ map f (drop (j + 1) ys)) whole
  here done xs ys whole i j x y lt_i lt_j at_x at_y h =
      subst (λ (l : List Val). Merging (map f done) (f x ∷ map f (drop (i + 1) xs)) l whole) (at_step ys j y lt_j at_y)
      (subst (λ (l : List Val). Merging (map f done) l (map f (drop j ys)) whole) (at_step xs i x lt_i at_x) h)

  pub step_left : (done xs ys : List X) (whole : List Val) (i j : ℕ) (x y z : X) → i < length xs → j < length ys → x ≡ get_or xs i x → y ≡ get_or ys j y → z ≡ get_or xs i z
      → Merging (map f done) (map f (drop i xs)) (map f (drop j ys)) whole → val_cmp (f x) (f y) ≡ Less
      → Merging (map f (done ++ z ∷ [])) (map f (drop (i + 1) xs)) (map f (drop j ys)) whole
  step_left done xs ys whole i j x y z lt_i lt_j at_x at_y at_z h order =
      let taken = merging_takes_left val_cmp_total val_cmp_exact (map f done) (map f (drop (i + 1) xs)) (map f (drop (j + 1) ys)) whole (f x) (f y) (here done xs ys whole i j x y lt_i lt_j at_x at_y h) order in
      subst (λ (l : List Val). Merging l (map f (drop (i + 1) xs)) (map f (drop j ys)) whole) (pushed done xs i x z lt_i at_x at_z)
      (subst (λ (l : List Val). Merging (map f done ++ f x ∷ []) (map f (drop (i + 1) xs)) l whole) (sym (at_step ys j y lt_j at_y)) taken)

  pub step_both : (done xs ys : List X) (whole : List Val) (i j : ℕ) (x y z : X) → i < length xs → j < length ys → x ≡ get_or xs i x → y ≡ get_or ys j y → z ≡ get_or xs i z
      → Merging (map f done) (map f (drop i xs)) (map f (drop j ys)) whole → val_cmp (f x) (f y) ≡ Equal
      → Merging (map f (done ++ z ∷ [])) (map f (drop (i + 1) xs)) (map f (drop (j + 1) ys)) whole
  step_both done xs ys whole i j x y z lt_i lt_j at_x at_y at_z h order =
      let taken = merging_takes_both val_cmp_total val_cmp_exact (map f done) (map f (drop (i + 1) xs)) (map f (drop (j + 1) ys)) whole (f x) (f y) (here done xs ys whole i j x y lt_i lt_j at_x at_y h) order in
      subst (λ (l : List Val). Merging l (map f (drop (i + 1) xs)) (map f (drop (j + 1) ys)) whole) (pushed done xs i x z lt_i at_x at_z) taken

  pub step_right : (done xs ys : List X) (whole : List Val) (i j : ℕ) (x y z : X) → i < length xs → j < length ys → x ≡ get_or xs i x → y ≡ get_or ys j y → z ≡ get_or ys j z
      → Merging (map f done) (map f (drop i xs)) (map f (drop j ys)) whole → val_cmp (f x) (f y) ≡ Greater
      → Merging (map f (done ++ z ∷ [])) (map f (drop i xs)) (map f (drop (j + 1) ys)) whole
  step_right done xs ys whole i j x y z lt_i lt_j at_x at_y at_z h order =
      let taken = merging_takes_right val_cmp_total val_cmp_exact (map f done) (map f (drop (i + 1) xs)) (map f (drop (j + 1) ys)) whole (f x) (f y) (here done xs ys whole i j x y lt_i lt_j at_x at_y h) order in
      subst (λ (l : List Val). Merging l (map f (drop i xs)) (map f (drop (j + 1) ys)) whole) (pushed done ys j y z lt_j at_y at_z)
      (subst (λ (l : List Val). Merging (map f done ++ f y ∷ []) l (map f (drop (j + 1) ys)) whole) (sym (at_step xs i x lt_i at_x)) taken)

  -- where one list is used up, the rest of the other ends the merge
  pub ends_left : (done xs ys : List X) (whole : List Val) (i j : ℕ) → length ys ≤ j → Merging (map f done) (map f (drop i xs)) (map f (drop j ys)) whole
      → map f ((done ++ drop i xs) ++ drop j ys) ≡ distinct val_cmp whole
  ends_left done xs ys whole i j past h =
      let none : drop j ys ≡ [] = drop_all j ys past in
      ap (λ l. map f ((done ++ drop i xs) ++ l)) none ∙ ap (map f) (append-nil (done ++ drop i xs)) ∙ map-append f done (drop i xs)
      ∙ merging_ends_left val_cmp_total val_cmp_exact (map f done) (map f (drop i xs)) whole (subst (λ (l : List X). Merging (map f done) (map f (drop i xs)) (map f l) whole) none h)

  pub ends_right : (done xs ys : List X) (whole : List Val) (i j : ℕ) → length xs ≤ i → Merging (map f done) (map f (drop i xs)) (map f (drop j ys)) whole
      → map f ((done ++ drop i xs) ++ drop j ys) ≡ distinct val_cmp whole
  ends_right done xs ys whole i j past h =
      let none : drop i xs ≡ [] = drop_all i xs past in
      ap (λ l. map f ((done ++ l) ++ drop j ys)) none ∙ ap (λ l. map f (l ++ drop j ys)) (append-nil done) ∙ map-append f done (drop j ys)
      ∙ merging_ends_right val_cmp_total val_cmp_exact (map f done) (map f (drop j ys)) whole (subst (λ (l : List X). Merging (map f done) (map f l) (map f (drop j ys)) whole) none h)

-- numbers at which a rising list has the values of a rising list rise
pub numbers_rise : (merged part : List Val) (ids : List ℕ) → IsStrictlySortedBy val_cmp merged → IsStrictlySortedBy val_cmp part
    → map (slice_get merged) ids ≡ map Some part → IsStrictlySortedBy nat_cmp ids
numbers_rise merged part ids up_merged up_part kept = sorted_from_strictly_increasing ids each
  where
    long : length ids ≡ length part
    long = sym (length-map ids (slice_get merged)) ∙ ap length kept ∙ length-map part Some

    at : (k : ℕ) (d : Val) → k < length ids → slice_get merged (get_or ids k 0) ≡ Some (get_or part k d)
    at k d lt =
        sym (get_or-map (slice_get merged) ids k 0 None lt) ∙ ap (λ l. get_or l k None) kept ∙ get_or-map Some part k d None (omega (arith, long))

    less : (i j : ℕ) (r : Ordering) → r ≡ nat_cmp i j → r ≡ Less → i < j
    less i j Less e h = ranked i j Less e
    less i j Equal e h = cc
    less i j Greater e h = cc

    first_of : (part : List Val) → 0 < length part → Val
    first_of [] h = absurd (omega arith)
    first_of (v ∷ vs) h = v

    each : (k : ℕ) → k + 1 < length ids → get_or ids k 0 < get_or ids (k + 1) 0
    each k lt =
        let d = first_of part (omega (arith, long)) in
        less (get_or ids k 0) (get_or ids (k + 1) 0) _ refl
        (keeps_order merged (get_or ids k 0) (get_or ids (k + 1) 0) (get_or part k d) (get_or part (k + 1) d) up_merged (at k d (omega arith)) (at (k + 1) d lt)
        ∙ rising_at val_cmp_total part k (k + 1) d up_part (omega arith) (omega (arith, long)))

or_true : (a : Bool) → (a || true) ≡ true
or_true true = refl
or_true false = refl

found_in_part : (t : Val → Bool) (parts : List (List Val)) (i : ℕ) (part : List Val) → i < length parts → part ≡ get_or parts i part → list_any t part ≡ true
    → list_any t (flat_map (λ p. p) parts) ≡ true
found_in_part t [] i part lt at found = absurd (omega arith)
found_in_part t (p ∷ parts) zero part lt at found =
    list_any-append t p (flat_map (λ p. p) parts) ∙ ap (λ l. list_any t l || list_any t (flat_map (λ p. p) parts)) (sym at) ∙ ap (λ b. b || list_any t (flat_map (λ p. p) parts)) found
found_in_part t (p ∷ parts) (suc i) part lt at found =
    list_any-append t p (flat_map (λ p. p) parts) ∙ ap (λ b. list_any t p || b) (found_in_part t parts i part (omega arith) at found) ∙ or_true (list_any t p)

-- each value of a part is in the merged dictionary
pub part_is_there : (parts : List (List Val)) (i : ℕ) (part : List Val) → i < length parts → part ≡ get_or parts i part
    → All (Contains (distinct val_cmp (flat_map (λ p. p) parts))) part
part_is_there parts i part lt at k d within =
    let v = get_or part k d in
    let there : Contains part v = (k, within, get_or_default part k v d within) in
    (keeps_values (flat_map (λ p. p) parts) v).1 (there_from _ v (found_in_part (eq_by_cmp val_cmp v) parts i part lt at (found_from part v there)))

pub AllZip_push : {A B : Type 0} (R : A → B → Type 0) (xs : List A) (ys : List B) (x : A) (y : B) → AllZip R xs ys → R x y → AllZip R (xs ++ x ∷ []) (ys ++ y ∷ [])
AllZip_push R [] [] x y h r = (r, tt)
AllZip_push R [] (b ∷ ys) x y h r = absurd h
AllZip_push R (a ∷ xs) [] x y h r = absurd h
AllZip_push R (a ∷ xs) (b ∷ ys) x y h r = (h.0, AllZip_push R xs ys x y h.1 r)

-- one more number
pub numbers_more : (merged items : List Val) (ids : List ℕ) (i : ℕ) (v : Val) (id : ℕ) → KeepsValues merged (take i items) ids → i < length items → v ≡ get_or items i v → slice_get merged id ≡ Some v
    → KeepsValues merged (take (i + 1) items) (ids ++ id ∷ [])
numbers_more merged items ids i v id kept lt at found =
    map_push (slice_get merged) ids id ∙ (λ k. kept k ++ found k ∷ [])
    ∙ sym (ap (map Some) (take_more items i v lt) ∙ map_push Some (take i items) (get_or items i v) ∙ ap (λ w. map Some (take i items) ++ Some w ∷ []) (sym at))

-- the numbers of all values
pub numbers_all : (merged items part : List Val) (ids : List ℕ) (i : ℕ) → KeepsValues merged (take i items) ids → length items ≤ i → items ≡ part → KeepsValues merged part ids
numbers_all merged items part ids i kept past same = kept ∙ ap (map Some) (take_all i items past ∙ same)

-- one more part
pub merged_more : (parts : List (List Val)) (i : ℕ) (part done more : List Val) → i < length parts → part ≡ get_or parts i part → done ≡ merged_dictionary (take i parts) → more ≡ part
    → distinct val_cmp (done ++ more) ≡ merged_dictionary (take (i + 1) parts)
merged_more parts i part done more lt at is_done is_more =
    let before = flat_map (λ p. p) (take i parts) in
    ap (λ l. distinct val_cmp (l ++ more)) is_done ∙ ap (λ l. distinct val_cmp (distinct val_cmp before ++ l)) (is_more ∙ at)
    ∙ distinct_alike val_cmp_total val_cmp_exact (distinct val_cmp before ++ get_or parts i part) (before ++ get_or parts i part)
    (λ q. let t = eq_by_cmp val_cmp q in
    list_any-append t (distinct val_cmp before) (get_or parts i part) ∙ ap (λ b. b || list_any t (get_or parts i part)) (any-distinct val_cmp_total val_cmp_exact t before)
    ∙ sym (list_any-append t before (get_or parts i part)))
    ∙ ap (distinct val_cmp) (flat_map_more (λ p. p) [] (take i parts) (get_or parts i part) ∙ ap (flat_map (λ p. p)) (sym (take_more parts i part lt)))
