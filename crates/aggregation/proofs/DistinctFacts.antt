-- The distinct keys of a list: by a sort, and by a merge of rising lists.
use Rattle.std.proofs.Common.{◌≡◌, ◌≤◌, ◌+◌, ◌∙◌, List, [], ◌∷◌, ◌++◌, map, length, Bool, true, false, cond, ◌||◌, refl, sym, ap, subst, arith, append_assoc}
use Rattle.std.specs.declared.cmp.Ordering.{Ordering}
use Rattle.std.specs.declared.cmp.Ordering.TheVariants.{Less, Equal, Greater}
use Rattle.std.specs.BTreeSet.{insert_key}
use Rattle.std.specs.Cmp.{IsTotalOrder, on_total}
use Rattle.std.specs.List.{AllByRecursion, dedup, dedup_from, list_any}
use Rattle.std.specs.List.Sorted.{IsPermutation, IsSorted, IsStrictlySortedBy}
use Rattle.std.specs.Ordering.{eq_by_cmp, match_ordering, ordering_reverse}
use Rattle.std.proofs.lemmas.List.Folds.{Any-from_list_any, list_any-append, list_any-from_Any}
use Rattle.std.proofs.lemmas.List.Kept.{IsStrictlySortedBy-dedup}
use Rattle.std.proofs.lemmas.List.Sorted.{Contains-permutation, IsPermutation-map, IsPermutation-sym}
use Rattle.measure_laws.specs.RisingFacts.{any-insert_key, rises-insert_key, same_rising}
use Rattle.aggregation.specs.Groups.{distinct}
use Rattle.aggregation.specs.Laws.{IsExact}
use Rattle.aggregation.proofs.GroupFacts.{any-distinct, rises-distinct, tied}

alike : (a b : Bool) → (a ≡ true → b ≡ true) → (b ≡ true → a ≡ true) → a ≡ b
alike true b to from = sym (to refl)
alike false true to from = from refl
alike false false to from = refl

one_found : {X : Type 0} (t : X → Bool) (xs ys : List X) → IsPermutation xs ys → list_any t xs ≡ true → list_any t ys ≡ true
one_found t xs ys moved found =
    let some = Any-from_list_any t xs found in
    let there = Contains-permutation xs ys some.1 moved (some.0, some.2, some.3) in
    list_any-from_Any t ys (there.0, some.1, there.1, there.2, some.4)

-- a test finds an element exactly if it finds one among them in another order
pub any-permutation : {X : Type 0} (t : X → Bool) (xs ys : List X) → IsPermutation xs ys → list_any t xs ≡ list_any t ys
any-permutation t xs ys moved = alike _ _ (one_found t xs ys moved) (one_found t ys xs (IsPermutation-sym xs ys moved))

module _ {K : Type 0} {cmp : K → K → Ordering} (o : IsTotalOrder cmp) (exact : IsExact cmp) where
  -- the distinct keys of a rising list are the list
  pub distinct-rising : (ks : List K) → IsStrictlySortedBy cmp ks → distinct cmp ks ≡ ks
  distinct-rising ks up = same_rising o exact (distinct cmp ks) ks (rises-distinct o exact ks) up (λ q. any-distinct o exact (eq_by_cmp cmp q) ks)

  -- one more key is put in its place
  pub distinct-push : (ks : List K) (k : K) → distinct cmp (ks ++ k ∷ []) ≡ insert_key cmp (distinct cmp ks) k
  distinct-push ks k =
      same_rising o exact _ _ (rises-distinct o exact (ks ++ k ∷ [])) (rises-insert_key o (distinct cmp ks) k (rises-distinct o exact ks))
      (λ q. let t = eq_by_cmp cmp q in
      any-distinct o exact t (ks ++ k ∷ []) ∙ list_any-append t ks (k ∷ []) ∙ last_first (list_any t ks) (t k)
      ∙ sym (any-insert_key o exact t (distinct cmp ks) k ∙ ap (λ b. t k || b) (any-distinct o exact t ks)))
    where
      last_first : (a b : Bool) → (a || (b || false)) ≡ (b || a)
      last_first true true = refl
      last_first true false = refl
      last_first false true = refl
      last_first false false = refl

  -- there are no more distinct keys than keys
  pub length-distinct : (ks : List K) → length (distinct cmp ks) ≤ length ks
  length-distinct [] = omega arith
  length-distinct (k ∷ ks) = let put = length-put (distinct cmp ks) k in let rest = length-distinct ks in omega arith
    where
      length-put : (xs : List K) (k : K) → length (insert_key cmp xs k) ≤ length xs + 1
      length-put [] k = omega arith
      length-put (x ∷ xs) k = by (cmp k x) (length-put xs k)
        where
          by : (r : Ordering) → length (insert_key cmp xs k) ≤ length xs + 1 → length (match_ordering r (k ∷ x ∷ xs) (x ∷ xs) (x ∷ insert_key cmp xs k)) ≤ length (x ∷ xs) + 1
          by Less h = omega arith
          by Equal h = omega arith
          by Greater h = omega arith

  module _ {X : Type 0} (f : X → K) where
    rises-map_all : (x : K) (xs : List X) → AllByRecursion (λ y. cmp x (f y) ≡ Less) xs → AllByRecursion (λ y. cmp x y ≡ Less) (map f xs)
    rises-map_all x [] h = tt
    rises-map_all x (y ∷ ys) h = (h.0, rises-map_all x ys h.1)

    rises-map : (xs : List X) → IsStrictlySortedBy (λ x y. cmp (f x) (f y)) xs → IsStrictlySortedBy cmp (map f xs)
    unfolding IsStrictlySortedBy
    rises-map [] h = tt
    rises-map (x ∷ xs) h = (rises-map_all (f x) xs h.0, rises-map xs h.1)

    module _ (E : X → X → Bool) (ties : (x y : X) → E x y ≡ eq_by_cmp cmp (f x) (f y)) (t : K → Bool) where
      any-dedup_from : (k : X) (xs : List X) → list_any t (map f (dedup_from E k xs)) ≡ (t (f k) || list_any t (map f xs))
      any-dedup_from k [] = refl
      any-dedup_from k (x ∷ xs) = by (E x k) refl (any-dedup_from k xs) (any-dedup_from x xs)
        where
          once : (a b c : Bool) → b ≡ a → (a || c) ≡ (a || (b || c))
          once true b c e = refl
          once false b c e = ap (λ d. d || c) (sym e)

          by : (b : Bool) → E x k ≡ b → list_any t (map f (dedup_from E k xs)) ≡ (t (f k) || list_any t (map f xs))
              → list_any t (map f (dedup_from E x xs)) ≡ (t (f x) || list_any t (map f xs))
              → list_any t (map f (cond b (dedup_from E k xs) (k ∷ dedup_from E x xs))) ≡ (t (f k) || (t (f x) || list_any t (map f xs)))
          by true e same other = same ∙ once _ _ _ (ap t (tied o exact (f x) (f k) (sym (ties x k) ∙ e)))
          by false e same other = ap (λ b. t (f k) || b) other

      any-dedup : (xs : List X) → list_any t (map f (dedup E xs)) ≡ list_any t (map f xs)
      any-dedup [] = refl
      any-dedup (x ∷ xs) = any-dedup_from x xs

    -- what is left of sorted elements without repeats has the distinct keys
    pub distinct_of_sort : (E : X → X → Bool) → ((x y : X) → E x y ≡ eq_by_cmp cmp (f x) (f y)) → (xs ys : List X) → IsPermutation xs ys → IsSorted (λ x y. cmp (f x) (f y)) ys
        → map f (dedup E ys) ≡ distinct cmp (map f xs)
    distinct_of_sort E ties xs ys moved sorted =
        same_rising o exact _ _ (rises-map (dedup E ys) (IsStrictlySortedBy-dedup (on_total f o) ties ys sorted)) (rises-distinct o exact (map f xs))
        (λ q. let t = eq_by_cmp cmp q in
        any-dedup E ties t ys ∙ sym (any-permutation t (map f xs) (map f ys) (IsPermutation-map f xs ys moved)) ∙ sym (any-distinct o exact t (map f xs)))

  -- a merge of two rising lists on its way: what is done, and what is left of each
  pub record IsMerging (done left right whole : List K) : Type 0 where
    pub members : (t : K → Bool) → (list_any t done || (list_any t left || list_any t right)) ≡ list_any t whole
    pub up_left : IsStrictlySortedBy cmp (done ++ left)
    pub up_right : IsStrictlySortedBy cmp (done ++ right)

  pub merging_starts : (left right : List K) → IsStrictlySortedBy cmp left → IsStrictlySortedBy cmp right → IsMerging [] left right (left ++ right)
  merging_starts left right up_left up_right = record { members = λ t. sym (list_any-append t left right); up_left = up_left; up_right = up_right }

  less_all : (x y : K) (ys : List K) → cmp x y ≡ Less → AllByRecursion (λ z. cmp y z ≡ Less) ys → AllByRecursion (λ z. cmp x z ≡ Less) ys
  less_all x y [] h t = tt
  less_all x y (z ∷ zs) h t = (o.trans x y z h t.0, less_all x y zs h t.1)

  all_between : (P : K → Type 0) (done left right : List K) (x : K) → AllByRecursion P (done ++ x ∷ left) → AllByRecursion P (done ++ right) → AllByRecursion P (done ++ x ∷ right)
  all_between P [] left right x h k = (h.0, k)
  all_between P (d ∷ done) left right x h k = (h.0, all_between P done left right x h.1 k.1)

  between : (done left right : List K) (x y : K) → IsStrictlySortedBy cmp (done ++ x ∷ left) → IsStrictlySortedBy cmp (done ++ y ∷ right) → cmp x y ≡ Less → IsStrictlySortedBy cmp (done ++ x ∷ y ∷ right)
  unfolding IsStrictlySortedBy
  between [] left right x y h k e = ((e, less_all x y right e k.0), k)
  between (d ∷ done) left right x y h k e = (all_between (λ z. cmp d z ≡ Less) done left (y ∷ right) x h.0 k.0, between done left right x y h.1 k.1 e)

  regrouped : (done rest : List K) (x : K) → IsStrictlySortedBy cmp (done ++ x ∷ rest) → IsStrictlySortedBy cmp ((done ++ x ∷ []) ++ rest)
  regrouped done rest x h = subst (IsStrictlySortedBy cmp) (sym (append_assoc done (x ∷ []) rest)) h

  pub merging_takes_left : (done left right whole : List K) (x y : K) → IsMerging done (x ∷ left) (y ∷ right) whole → cmp x y ≡ Less → IsMerging (done ++ x ∷ []) left (y ∷ right) whole
  merging_takes_left done left right whole x y h e = record {
    members = λ t. ap (λ b. b || (list_any t left || list_any t (y ∷ right))) (list_any-append t done (x ∷ [])) ∙ moved (list_any t done) (t x) (list_any t left) (list_any t (y ∷ right)) ∙ h.members t;
    up_left = regrouped done left x h.up_left;
    up_right = regrouped done (y ∷ right) x (between done left right x y h.up_left h.up_right e);
  }
    where
      moved : (d x l r : Bool) → ((d || (x || false)) || (l || r)) ≡ (d || ((x || l) || r))
      moved true x l r = refl
      moved false true l r = refl
      moved false false l r = refl

  pub merging_takes_both : (done left right whole : List K) (x y : K) → IsMerging done (x ∷ left) (y ∷ right) whole → cmp x y ≡ Equal → IsMerging (done ++ x ∷ []) left right whole
  merging_takes_both done left right whole x y h e =
      let same : y ≡ x = sym (exact x y e) in
      record {
        members = λ t. ap (λ b. b || (list_any t left || list_any t right)) (list_any-append t done (x ∷ [])) ∙ moved (list_any t done) (t x) (t y) (list_any t left) (list_any t right) (ap t same) ∙ h.members t;
        up_left = regrouped done left x h.up_left;
        up_right = regrouped done right x (subst (λ (k : K). IsStrictlySortedBy cmp (done ++ k ∷ right)) same h.up_right);
      }
    where
      moved : (d x y l r : Bool) → y ≡ x → ((d || (x || false)) || (l || r)) ≡ (d || ((x || l) || (y || r)))
      moved true x y l r e = refl
      moved false true y l r e = refl
      moved false false y l r e = ap (λ b. l || (b || r)) (sym e)

  pub merging_takes_right : (done left right whole : List K) (x y : K) → IsMerging done (x ∷ left) (y ∷ right) whole → cmp x y ≡ Greater → IsMerging (done ++ y ∷ []) (x ∷ left) right whole
  merging_takes_right done left right whole x y h e =
      let below : cmp y x ≡ Less = o.antisymm y x ∙ ap ordering_reverse e in
      record {
        members = λ t. ap (λ b. b || (list_any t (x ∷ left) || list_any t right)) (list_any-append t done (y ∷ [])) ∙ moved (list_any t done) (t y) (list_any t (x ∷ left)) (list_any t right) ∙ h.members t;
        up_left = regrouped done (x ∷ left) y (between done right left y x h.up_right h.up_left below);
        up_right = regrouped done right y h.up_right;
      }
    where
      or_true : (a : Bool) → true ≡ (a || true)
      or_true true = refl
      or_true false = refl

      moved : (d y l r : Bool) → ((d || (y || false)) || (l || r)) ≡ (d || (l || (y || r)))
      moved true y l r = refl
      moved false true l r = or_true l
      moved false false l r = refl

  or_false : (a : Bool) → (a || false) ≡ a
  or_false true = refl
  or_false false = refl

  pub merging_ends_left : (done left whole : List K) → IsMerging done left [] whole → done ++ left ≡ distinct cmp whole
  merging_ends_left done left whole h =
      same_rising o exact _ _ h.up_left (rises-distinct o exact whole)
      (λ q. let t = eq_by_cmp cmp q in
      list_any-append t done left ∙ ap (λ b. list_any t done || b) (sym (or_false (list_any t left))) ∙ h.members t ∙ sym (any-distinct o exact t whole))

  pub merging_ends_right : (done right whole : List K) → IsMerging done [] right whole → done ++ right ≡ distinct cmp whole
  merging_ends_right done right whole h =
      same_rising o exact _ _ h.up_right (rises-distinct o exact whole)
      (λ q. let t = eq_by_cmp cmp q in list_any-append t done right ∙ h.members t ∙ sym (any-distinct o exact t whole))
