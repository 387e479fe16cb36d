-- There is one plan, and each of its actions can be taken at its turn.
use Rattle.std.proofs.Common.{◌≡◌, ◌<◌, ◌+◌, ◌-◌, ℕ, suc, Bool, true, false, cond, not, inl, inr, refl, sym, ap, ap₂, subst, ◌∙◌, arith, List, [], ◌∷◌, ◌++◌, length, take, drop, map, filter, length-append, append_assoc, Some}
use Rattle.std.specs.Prelude.{slice_get, remove}
use Rattle.std.specs.List.{replace_range}
use Rattle.std.proofs.Math.Seq.{get_or-append_seam}
use Rattle.std.proofs.lemmas.Bool.{cases_lt}
use Rattle.std.proofs.lemmas.Option.{slice_get-get_or}
use Rattle.std.proofs.lemmas.List.Edits.{remove-append_right}
use Rattle.range_list.specs.Ranges.{Interval, IsApart, AreJoined, EndToEnd, Fills}
use Rattle.range_list.proofs.Apart.{ends_rise, remove_apart}
use Rattle.range_list.proofs.Covering.{end_to_end}
use Rattle.auto_merge.specs.declared.action.Action.{Action}
use Rattle.auto_merge.specs.declared.action.Action.TheVariants.{Drop, Merge}
use Rattle.auto_merge.specs.Expiry.{is_expired, expired, kept, last_end}
use Rattle.auto_merge.specs.Chances.{range_at, whole, IsChance, IsNext, HasNoChance}
use Rattle.auto_merge.specs.Plans.{merged, AreMerges, IsPlan}
use Rattle.auto_merge.specs.Turns.{TakesEach}
use Rattle.auto_merge.proofs.MergeLemmas.{merged_apart}

abbrev none : Interval
none = record { start = 0; end = 0 }

-- ---- one plan

-- of one start and threshold there is one chance
count_less : (rs : List Interval) (t f c e : ℕ) → IsApart rs → IsChance rs t f c → IsChance rs t f e → c < e → ⊥
count_less rs t f c e apart a b lt =
    let later = ends_rise rs apart (f + c - 1) (f + (e - 1) - 1) none (omega (arith, a.two)) (omega (arith, a.two, b.inside)) in
    omega (arith, a.enough, b.least, later)

one_count : (rs : List Interval) (t f c e : ℕ) → IsApart rs → IsChance rs t f c → IsChance rs t f e → c ≡ e
one_count rs t f c e apart a b =
    elim (cases_lt c e) [
      | inl lt ↦ absurd (count_less rs t f c e apart a b lt)
      | inr le ↦ elim (cases_lt e c) [ inl lt ↦ absurd (count_less rs t f e c apart b a lt) | inr ge ↦ omega arith ]
    ]

module _ (rs : List Interval) (days : List ℕ) (f c g e : ℕ) (a : IsNext days rs f c) (b : IsNext days rs g e) where
  one_threshold : a.threshold ≡ b.threshold
  one_threshold =
      elim (cases_lt a.threshold b.threshold) [
        | inl lt ↦ absurd (a.greatest b.threshold g e b.listed lt b.chance)
        | inr le ↦ elim (cases_lt b.threshold a.threshold) [ inl lt ↦ absurd (b.greatest a.threshold f c a.listed lt a.chance) | inr ge ↦ omega arith ]
      ]

  b_chance : IsChance rs a.threshold g e
  b_chance = subst (λ (t : ℕ). IsChance rs t g e) (sym one_threshold) b.chance

  one_first : f ≡ g
  one_first =
      elim (cases_lt f g) [
        | inl lt ↦ absurd (b.earliest f c lt (subst (λ (t : ℕ). IsChance rs t f c) one_threshold a.chance))
        | inr le ↦ elim (cases_lt g f) [ inl lt ↦ absurd (a.earliest g e lt b_chance) | inr ge ↦ omega arith ]
      ]

  one_next : IsApart rs → (f ≡ g) × (c ≡ e)
  one_next apart = (one_first, one_count rs a.threshold f c e apart a.chance (subst (λ (n : ℕ). IsChance rs a.threshold n e) (sym one_first) b_chance))

one_merges : (days : List ℕ) (rs a l b m : List Interval) → IsApart rs → AreMerges days rs a l → HasNoChance days l → AreMerges days rs b m → HasNoChance days m → a ≡ b
one_merges days rs [] l [] m apart h ended k over = refl
one_merges days rs [] l (s ∷ b) m apart h ended k over = absurd (ended k.2.threshold k.0 k.1 k.2.listed (subst (λ (x : List Interval). IsChance x k.2.threshold k.0 k.1) h k.2.chance))
one_merges days rs (r ∷ a) l [] m apart h ended k over = absurd (over h.2.threshold h.0 h.1 h.2.listed (subst (λ (x : List Interval). IsChance x h.2.threshold h.0 h.1) k h.2.chance))
one_merges days rs (r ∷ a) l (s ∷ b) m apart h ended k over =
    let same = one_next rs days h.0 h.1 k.0 k.1 h.2 k.2 apart in
    let first = subst (λ (n : ℕ). AreMerges days (merged rs n k.1) b m) (sym same.0) k.4 in
    let rest = subst (λ (n : ℕ). AreMerges days (merged rs h.0 n) b m) (sym same.1) first in
    let next = merged_apart rs h.0 h.1 apart (omega (arith, h.2.chance.two)) h.2.chance.inside in
    ap₂ ◌∷◌ (h.3 ∙ ap₂ (whole rs) same.0 same.1 ∙ sym k.3) (one_merges days (merged rs h.0 h.1) a l b m next h.4 ended rest over)

-- ---- each action at its turn

-- of ranges that are apart some are left out
module _ (p : Interval → Bool) (more : List Action) (left : List Interval) where
  abbrev unlisted : Interval → Bool
  unlisted r = not (p r)

  -- the next one is dropped
  drop_one : (front : List Interval) (x : Interval) (xs : List Interval) (actions : List Action) → IsApart (front ++ x ∷ xs) → (IsApart (front ++ xs) → TakesEach (front ++ xs) actions left) → TakesEach (front ++ x ∷ xs) (Drop x ∷ actions) left
  drop_one front x xs actions apart rest =
      let inside : length front < length (front ++ x ∷ xs) = omega (arith, length-append front (x ∷ xs)) in
      let zero_left : length front - length front ≡ 0 = omega arith in
      let gone : remove (front ++ x ∷ xs) (length front) ≡ front ++ xs =
      remove-append_right front (x ∷ xs) (length front) (length front) refl (omega arith) ∙ ap (λ n. front ++ remove (x ∷ xs) n) zero_left in
      let there : slice_get (front ++ x ∷ xs) (length front) ≡ Some x =
      slice_get-get_or (front ++ x ∷ xs) (length front) x inside ∙ ap Some (get_or-append_seam front x xs x) in
      (front ++ xs, apart, (length front, there, sym gone), rest (subst IsApart gone (remove_apart (front ++ x ∷ xs) (length front) apart inside)))

  -- all that pass are dropped
  abbrev DropsOf : List Interval → List Interval → Type 0
  DropsOf rest front = IsApart (front ++ rest) → (IsApart (front ++ filter unlisted rest) → TakesEach (front ++ filter unlisted rest) more left) → TakesEach (front ++ rest) (map Drop (filter p rest) ++ more) left

  by_test : (front : List Interval) (x : Interval) (xs : List Interval) (b : Bool) → ((f : List Interval) → DropsOf xs f) → IsApart (front ++ x ∷ xs)
      → (IsApart (front ++ cond (not b) (x ∷ filter unlisted xs) (filter unlisted xs)) → TakesEach (front ++ cond (not b) (x ∷ filter unlisted xs) (filter unlisted xs)) more left)
      → TakesEach (front ++ x ∷ xs) (map Drop (cond b (x ∷ filter p xs) (filter p xs)) ++ more) left
  by_test front x xs true rest apart h = drop_one front x xs (map Drop (filter p xs) ++ more) apart (λ next. rest front next h)
  by_test front x xs false rest apart h =
      let moved : (ys : List Interval) → front ++ x ∷ [] ++ ys ≡ front ++ x ∷ ys = λ ys. append_assoc front (x ∷ []) ys in
      subst (λ (rs : List Interval). TakesEach rs (map Drop (filter p xs) ++ more) left) (moved xs)
      (rest (front ++ x ∷ []) (subst IsApart (sym (moved xs)) apart)
      (λ next. subst (λ (rs : List Interval). TakesEach rs more left) (sym (moved (filter unlisted xs))) (h (subst IsApart (moved (filter unlisted xs)) next))))

  drops_taken : (rest front : List Interval) → DropsOf rest front
  drops_taken [] front apart h = h apart
  drops_taken (x ∷ xs) front apart h = by_test front x xs (p x) (drops_taken xs) apart h

-- the neighbours of a chance fill the range that they are merged into
chance_fills : (rs : List Interval) (t f c : ℕ) → IsChance rs t f c → Fills rs (whole rs f c) f c
chance_fills rs t f c h =
    let last : f + c - 1 ≡ f + (c - 1) = omega (arith, h.two) in
    let counted : suc (c - 1) ≡ f + c - f = omega (arith, h.two) in
    let joined = subst (λ (n : ℕ). AreJoined rs f n) last h.joined in
    let filled = end_to_end rs f (c - 1) (omega (arith, h.two, h.inside)) joined in
    (h.inside, subst (λ (n : ℕ). EndToEnd (range_at rs f).start (range_at rs n).end (take (f + c - f) (drop f rs))) (sym last) (subst (λ (n : ℕ). EndToEnd (range_at rs f).start (range_at rs (f + (c - 1))).end (take n (drop f rs))) counted filled))

merges_taken : (days : List ℕ) (rs merges left : List Interval) → IsApart rs → AreMerges days rs merges left → TakesEach rs (map Merge merges) left
merges_taken days rs [] left apart h = (apart, h)
merges_taken days rs (r ∷ more) left apart h =
    let chance = h.2.chance in
    let filled = subst (λ (x : Interval). Fills rs x h.0 h.1) (sym h.3) (chance_fills rs h.2.threshold h.0 h.1 chance) in
    let next : merged rs h.0 h.1 ≡ replace_range rs h.0 (h.0 + h.1) (r ∷ []) = ap (λ (x : Interval). replace_range rs h.0 (h.0 + h.1) (x ∷ [])) (sym h.3) in (
      merged rs h.0 h.1,
      apart,
      (h.0, h.1, chance.two, filled, next),
      merges_taken days (merged rs h.0 h.1) more left (merged_apart rs h.0 h.1 apart (omega (arith, chance.two)) chance.inside) h.4,
    )

-- ---- both, of plans

pub one_plan : (rs : List Interval) (days : List ℕ) (retain : ℕ) (a b : List Action) → IsApart rs → IsApart (kept retain rs) → IsPlan rs days retain a → IsPlan rs days retain b → a ≡ b
one_plan rs days retain a b apart left_apart h k =
    h.listed ∙ ap (λ ms. map Drop (expired retain rs) ++ map Merge ms) (one_merges days (kept retain rs) h.merges h.left k.merges k.left left_apart h.each_next h.no_more k.each_next k.no_more) ∙ sym k.listed

pub plan_taken : (rs : List Interval) (days : List ℕ) (retain : ℕ) (a : List Action) → IsApart rs → (h : IsPlan rs days retain a) → TakesEach rs a h.left
plan_taken rs days retain a apart h =
    subst (λ (actions : List Action). TakesEach rs actions h.left) (sym h.listed)
    (drops_taken (is_expired retain (last_end rs)) (map Merge h.merges) h.left rs [] apart (λ next. merges_taken days (kept retain rs) h.merges h.left next h.each_next))
