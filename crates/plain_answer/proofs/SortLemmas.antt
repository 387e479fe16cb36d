-- What a stable sort gives is the list in order.
use Rattle.std.proofs.Common.{◌≡◌, ℕ, suc, ◌<◌, ◌≤◌, Bool, true, false, cond, ◌&&◌, List, [], ◌∷◌, length, get_or, filter, refl, sym, ap, ◌∙◌, arith}
use mathlib.Core.Bool.{not, true≢false}
use Rattle.std.specs.Cmp.{IsStrictWeakOrder}
use Rattle.std.specs.List.{AllByRecursion}
use Rattle.std.specs.List.Sorted.{IsSortedBy, IsStableBy, ties}
use Rattle.std.proofs.lemmas.List.Sorted.{sorted_far}
use Rattle.plain_answer.specs.Sorting.{put, sorted}

module _ {X : Type 0} {lt : X → X → Bool} (o : IsStrictWeakOrder lt) where
  -- no item comes before an earlier one
  abbrev Rises : List X → Type 0
  Rises [] = Unit {0}
  Rises (x ∷ xs) = AllByRecursion (λ y. lt y x ≡ false) xs × Rises xs

  itself : (x : X) → lt x x ≡ false
  itself x = by (lt x x) (o.one_way x x)
    where
      by : (b : Bool) → (b ≡ true → b ≡ false) → b ≡ false
      by true h = h refl
      by false h = refl

  tied_itself : (x : X) → ties lt x x ≡ true
  tied_itself x = ap (λ b. not b && not b) (itself x)

  -- what comes before the first of a rising list ties with none of it
  none_tied : (x y : X) (ys : List X) → lt x y ≡ true → AllByRecursion (λ z. lt z y ≡ false) ys → filter (ties lt x) ys ≡ []
  none_tied x y [] before all = refl
  none_tied x y (z ∷ zs) before all = by (lt x z) (λ e. o.chain x z y e all.0) (none_tied x y zs before all.1)
    where
      by : (b : Bool) → (b ≡ false → lt x y ≡ false) → filter (ties lt x) zs ≡ [] → cond (not b && not (lt z x)) (z ∷ filter (ties lt x) zs) (filter (ties lt x) zs) ≡ []
      by true h more = more
      by false h more = absurd (true≢false (sym before ∙ h refl))

  none_tied_at : (x y : X) (ys : List X) → lt x y ≡ true → AllByRecursion (λ z. lt z y ≡ false) ys → filter (ties lt x) (y ∷ ys) ≡ []
  none_tied_at x y ys before all = ap (λ b. cond (not b && not (lt y x)) (y ∷ filter (ties lt x) ys) (filter (ties lt x) ys)) before ∙ none_tied x y ys before all

  kept_itself : (x : X) (xs : List X) → filter (ties lt x) (x ∷ xs) ≡ x ∷ filter (ties lt x) xs
  kept_itself x xs = ap (λ b. cond b (x ∷ filter (ties lt x) xs) (filter (ties lt x) xs)) (tied_itself x)

  no_more : {A : Type 0} (x : X) (xs : List X) → [] ≡ x ∷ xs → A
  no_more x xs e = cc

  same_first : (x y : X) (xs ys : List X) → x ∷ xs ≡ y ∷ ys → x ≡ y
  same_first x y xs ys e = cc

  same_rest : (x y : X) (xs ys : List X) → x ∷ xs ≡ y ∷ ys → xs ≡ ys
  same_rest x y xs ys e = cc

  tail_step : (b : Bool) (x : X) (xs ys : List X) → cond b (x ∷ xs) xs ≡ cond b (x ∷ ys) ys → xs ≡ ys
  tail_step true x xs ys e = same_rest x x xs ys e
  tail_step false x xs ys e = e

  -- rising lists with the same items of each tie, in the same order, are equal
  rising_same : (ys zs : List X) → Rises ys → Rises zs → ((x : X) → filter (ties lt x) ys ≡ filter (ties lt x) zs) → ys ≡ zs
  rising_same [] [] up rise same = refl
  rising_same [] (z ∷ zs) up rise same = no_more z _ (same z ∙ kept_itself z zs)
  rising_same (y ∷ ys) [] up rise same = no_more y _ (sym (same y) ∙ kept_itself y ys)
  rising_same (y ∷ ys) (z ∷ zs) up rise same = by (λ h. rising_same ys zs up.1 rise.1 h) (lt y z) (lt z y) refl refl
    where
      first : lt y z ≡ false → lt z y ≡ false → y ≡ z
      first a b = same_first y z _ _ (sym (kept_itself y ys) ∙ same y ∙ ap (λ t. cond t (z ∷ filter (ties lt y) zs) (filter (ties lt y) zs)) (λ i. not (a i) && not (b i)))

      by : (((x : X) → filter (ties lt x) ys ≡ filter (ties lt x) zs) → ys ≡ zs) → (a b : Bool) → lt y z ≡ a → lt z y ≡ b → y ∷ ys ≡ z ∷ zs
      by tails true b e f = no_more y _ (sym (sym (kept_itself y ys) ∙ same y ∙ none_tied_at y z zs e rise.0))
      by tails false true e f = no_more z _ (sym (sym (kept_itself z zs) ∙ sym (same z) ∙ none_tied_at z y ys f up.0))
      by tails false false e f =
          let head : y ≡ z = first e f in
          let rest : ys ≡ zs = tails (λ x. tail_step (ties lt x z) z _ _ (sym (ap (λ w. cond (ties lt x w) (w ∷ filter (ties lt x) ys) (filter (ties lt x) ys)) head) ∙ same x)) in
          λ i. head i ∷ rest i

  all_map : (P Q : X → Type 0) → ((x : X) → P x → Q x) → (xs : List X) → AllByRecursion P xs → AllByRecursion Q xs
  all_map P Q f [] all = tt
  all_map P Q f (x ∷ xs) all = (f x all.0, all_map P Q f xs all.1)

  all-put : (P : X → Type 0) (x : X) (ys : List X) → P x → AllByRecursion P ys → AllByRecursion P (put lt x ys)
  all-put P x [] one all = (one, tt)
  all-put P x (y ∷ ys) one all = by (lt y x) (all-put P x ys one all.1)
    where
      by : (b : Bool) → AllByRecursion P (put lt x ys) → AllByRecursion P (cond b (y ∷ put lt x ys) (x ∷ y ∷ ys))
      by true more = (all.0, more)
      by false more = (one, all)

  rises-put : (x : X) (ys : List X) → Rises ys → Rises (put lt x ys)
  rises-put x [] up = (tt, tt)
  rises-put x (y ∷ ys) up = by (lt y x) refl (rises-put x ys up.1)
    where
      by : (b : Bool) → lt y x ≡ b → Rises (put lt x ys) → Rises (cond b (y ∷ put lt x ys) (x ∷ y ∷ ys))
      by true e more = (all-put (λ z. lt z y ≡ false) x ys (o.one_way y x e) up.0, more)
      by false e more = ((e, all_map (λ z. lt z y ≡ false) (λ z. lt z x ≡ false) (λ z h. o.chain z y x h e) ys up.0), up)

  rises-sorted : (xs : List X) → Rises (sorted lt xs)
  rises-sorted [] = tt
  rises-sorted (x ∷ xs) = rises-put x (sorted lt xs) (rises-sorted xs)

  apart : (x a b : X) → lt b a ≡ true → ties lt x b ≡ true → ties lt x a ≡ true → ⊥
  apart x a b before tb ta = true≢false (sym before ∙ o.chain b x a (right (lt x b) (lt b x) tb) (left (lt x a) (lt a x) ta))
    where
      left : (p q : Bool) → (not p && not q) ≡ true → p ≡ false
      left true q h = absurd (true≢false (sym h))
      left false q h = refl

      right : (p q : Bool) → (not p && not q) ≡ true → q ≡ false
      right true q h = absurd (true≢false (sym h))
      right false true h = absurd (true≢false (sym h))
      right false false h = refl

  -- an item that is put in its place stays in the order of those that it ties with
  filter-put : (t x : X) (ys : List X) → filter (ties lt t) (put lt x ys) ≡ filter (ties lt t) (x ∷ ys)
  filter-put t x [] = refl
  filter-put t x (y ∷ ys) = by (lt y x) refl (filter-put t x ys)
    where
      F : List X
      F = filter (ties lt t) ys

      cross : (p q : Bool) (P : List X) → (p ≡ true → q ≡ true → ⊥) → P ≡ cond q (x ∷ F) F → cond p (y ∷ P) P ≡ cond q (x ∷ cond p (y ∷ F) F) (cond p (y ∷ F) F)
      cross true true P never e = absurd (never refl refl)
      cross true false P never e = ap (λ l. y ∷ l) e
      cross false true P never e = e
      cross false false P never e = e

      by : (b : Bool) → lt y x ≡ b → filter (ties lt t) (put lt x ys) ≡ filter (ties lt t) (x ∷ ys)
          → filter (ties lt t) (cond b (y ∷ put lt x ys) (x ∷ y ∷ ys)) ≡ filter (ties lt t) (x ∷ y ∷ ys)
      by true e more = cross (ties lt t y) (ties lt t x) (filter (ties lt t) (put lt x ys)) (apart t x y e) more
      by false e more = refl

  filter-sorted : (t : X) (xs : List X) → filter (ties lt t) (sorted lt xs) ≡ filter (ties lt t) xs
  filter-sorted t [] = refl
  filter-sorted t (x ∷ xs) = filter-put t x (sorted lt xs) ∙ ap (λ l. cond (ties lt t x) (x ∷ l) l) (filter-sorted t xs)

  all_from : (P : X → Type 0) (xs : List X) → ((k : ℕ) (d : X) → k < length xs → P (get_or xs k d)) → AllByRecursion P xs
  all_from P [] h = tt
  all_from P (x ∷ xs) h = (h 0 x (omega arith), all_from P xs (λ k d here. h (suc k) d (omega arith)))

  rises_from : (xs : List X) → ((i j : ℕ) (d : X) → i ≤ j → j < length xs → lt (get_or xs j d) (get_or xs i d) ≡ false) → Rises xs
  rises_from [] far = tt
  rises_from (x ∷ xs) far = (
    all_from (λ y. lt y x ≡ false) xs (λ k d here. far 0 (suc k) d (omega arith) (omega arith)),
    rises_from xs (λ i j d up here. far (suc i) (suc j) d (omega arith) (omega arith)),
  )

  -- what a stable sort gives is the list in order
  pub sort_is_sorted : (xs ys : List X) → IsSortedBy lt ys → IsStableBy lt xs ys → ys ≡ sorted lt xs
  sort_is_sorted xs ys up stable =
      rising_same ys (sorted lt xs) (rises_from ys (sorted_far lt o ys up)) (rises-sorted xs) (λ t. stable t ∙ sym (filter-sorted t xs))
