-- Lists that loops make item by item, and ranges that are put last.
use Rattle.std.proofs.Common.{◌≡◌, ◌≤◌, ◌<◌, ◌+◌, ◌++◌, ◌∙◌, ℕ, Bool, true, false, cond, inl, inr, List, [], ◌∷◌, length, map, take, get_or, ap, sym, subst, arith, All}
use Rattle.std.specs.Prelude.{filter, insert}
use Rattle.std.proofs.lemmas.Bool.{cases_Bool, cases_lt}
use Rattle.std.proofs.lemmas.List.{append-nil, append_assoc, get_or-map, get_or-take, get_or_default, length-map, length-take-le, take_more}
use Rattle.std.proofs.lemmas.List.Edits.{get_or-insert_above, get_or-insert_at, insert_end, length-insert}
use Rattle.std.proofs.lemmas.List.Elements.{filter_more}
use Rattle.range_list.specs.Ranges.{Interval, IsApart, IsFree}
use Rattle.segment_store.specs.ReadySets.{ranges_of}
use Rattle.segment_store.specs.declared.parts.SegmentParts.{SegmentParts}

-- ---- what loops append

module _ {X Y : Type 0} (f : X → Y) (front : List Y) (xs : List X) (i : ℕ) (x : X) (within : i < length xs) (at : x ≡ get_or xs i x) where
  there : i < length (map f xs)
  there = omega (arith, length-map xs f)

  read : get_or (map f xs) i (f x) ≡ f x
  read = get_or-map f xs i x (f x) within ∙ sym (ap f at)

  -- one more item
  pub appended_more : (l l' : List Y) → l ≡ front ++ take i (map f xs) → l' ≡ l ++ f x ∷ [] → l' ≡ front ++ take (i + 1) (map f xs)
  appended_more l l' before new =
      new ∙ ap (λ k. k ++ f x ∷ []) before ∙ append_assoc front (take i (map f xs)) (f x ∷ [])
      ∙ ap (λ k. front ++ k) (sym (take_more (map f xs) i (f x) there ∙ ap (λ v. take i (map f xs) ++ v ∷ []) read))

  -- one more item where it passes
  pub kept_more : (p : Y → Bool) (l l' : List Y) → l ≡ front ++ filter p (take i (map f xs)) → (p (f x) ≡ true → l' ≡ l ++ f x ∷ []) → (p (f x) ≡ false → l' ≡ l) → l' ≡ front ++ filter p (take (i + 1) (map f xs))
  kept_more p l l' before passes goes =
      let more : filter p (take (i + 1) (map f xs)) ≡ filter p (take i (map f xs)) ++ cond (p (f x)) (f x ∷ []) [] =
      filter_more p (map f xs) i (f x) there ∙ ap (λ v. filter p (take i (map f xs)) ++ cond (p v) (v ∷ []) []) read
      in
      elim (cases_Bool (p (f x))) [
        | inl passing ↦
            passes passing ∙ ap (λ k. k ++ f x ∷ []) before ∙ append_assoc front (filter p (take i (map f xs))) (f x ∷ [])
            ∙ ap (λ k. front ++ k) (sym (more ∙ ap (λ b. filter p (take i (map f xs)) ++ cond b (f x ∷ []) []) passing))
        | inr failing ↦
            goes failing ∙ before
            ∙ ap (λ k. front ++ k) (sym (more ∙ ap (λ b. filter p (take i (map f xs)) ++ cond b (f x ∷ []) []) failing ∙ append-nil (filter p (take i (map f xs)))))
      ]

-- ---- ranges

-- what ends before a day from which the range goes on has no day of it
pub free_of_earlier : (rs : List Interval) (r : Interval) → All (λ e. e.end ≤ r.start) rs → IsFree rs r
free_of_earlier rs r h k d within o = let le = h k d within in omega (arith, le, o.1.0.1, o.1.1.0)

-- a range behind all others stands last
pub insert_last : (rs : List Interval) (r : Interval) (i : ℕ) → i ≤ length rs → All (λ e. e.end ≤ r.start) rs → IsApart (insert rs i r) → insert rs i r ≡ rs ++ r ∷ []
insert_last rs r i le h apart =
    elim (cases_lt i (length rs)) [
      | inl lt ↦
          let here : get_or (insert rs i r) i r ≡ r = get_or-insert_at rs i r r le in
          let next : get_or (insert rs i r) (i + 1) r ≡ get_or rs i r = get_or-insert_above rs i r r i (omega arith) le in
          let long = length-insert rs i r le in
          let order = apart.1 i (i + 1) r (omega arith) (omega (arith, long)) in
          let range = apart.0 i r (omega (arith, long)) in
          let other = apart.0 (i + 1) r (omega (arith, long)) in
          let before = h i r lt in
          let a = ap (λ (t : Interval). t.start) here in
          let b = ap (λ (t : Interval). t.end) here in
          let c = ap (λ (t : Interval). t.start) next in
          let d = ap (λ (t : Interval). t.end) next in
          absurd (omega (arith, order, range, other, before, a, b, c, d))
      | inr ge ↦ let end : i ≡ length rs = omega arith in ap (λ n. insert rs n r) end ∙ insert_end rs r
    ]

-- of ranges that are apart the earlier ones end before a later one starts
pub earlier_end : (rs : List Interval) (i : ℕ) (r : Interval) → IsApart rs → i < length rs → r ≡ get_or rs i r → All (λ e. e.end ≤ r.start) (take i rs)
earlier_end rs i r apart within at k d lt =
    let short : length (take i rs) ≡ i = length-take-le i rs (omega arith) in
    let below : k < i = omega (arith, lt, short) in
    let order = apart.1 k i d below within in
    let same : get_or (take i rs) k d ≡ get_or rs k d = get_or-take i rs k d below in
    let there : get_or rs i d ≡ r = get_or_default rs i d r within ∙ sym at in
    let e = ap (λ (t : Interval). t.end) same in
    let s = ap (λ (t : Interval). t.start) there in
    omega (arith, order, e, s)

module _ {X : Type 0} (f : X → SegmentParts) (xs : List X) (i : ℕ) (x : X) (within : i < length xs) (at : x ≡ get_or xs i x) (range : Interval) (is : range ≡ (f x).range) where
  abbrev ranges : List Interval
  ranges = ranges_of (map f xs)

  long : i < length (map f xs)
  long = omega (arith, within, length-map xs f)

  own : f x ≡ get_or (map f xs) i (f x)
  own = ap f at ∙ sym (get_or-map f xs i x (f x) within)

  range_there : (f x).range ≡ get_or ranges i (f x).range
  range_there = ap (λ (t : SegmentParts). t.range) own ∙ sym (get_or-map (λ (t : SegmentParts). t.range) (map f xs) i (f x) (f x).range long)

  -- a later range starts where the earlier ones end, or later
  pub next_starts_later : (l : List Interval) → IsApart ranges → l ≡ take i ranges → All (λ e. e.end ≤ range.start) l
  next_starts_later l apart before =
      let many : i < length ranges = omega (arith, long, length-map (map f xs) (λ (t : SegmentParts). t.range)) in
      let ends = earlier_end ranges i (f x).range apart many range_there in
      let there : All (λ e. e.end ≤ (f x).range.start) l = subst (λ (k : List Interval). All (λ e. e.end ≤ (f x).range.start) k) (sym before) ends in
      subst (λ (r : Interval). All (λ e. e.end ≤ r.start) l) (sym is) there

  -- one more range
  pub next_range : (l l' : List Interval) → l ≡ take i ranges → l' ≡ l ++ range ∷ [] → l' ≡ take (i + 1) ranges
  next_range l l' before new = appended_more (λ (t : SegmentParts). t.range) [] (map f xs) i (f x) long own l l' before (new ∙ ap (λ r. l ++ r ∷ []) is)
