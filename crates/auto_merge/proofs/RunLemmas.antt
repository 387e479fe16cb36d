-- How a chance is found: range after range, from its first one on.
use Rattle.std.proofs.Common.{◌≡◌, ◌≤◌, ◌<◌, ◌+◌, ◌-◌, ℕ, inl, inr, sym, ap, subst, ◌∙◌, arith, List, length}
use Rattle.std.proofs.lemmas.Bool.{cases_eq, cases_lt}
use Rattle.std.proofs.lemmas.List.{get_or_default}
use Rattle.range_list.specs.Ranges.{Interval}
use Rattle.auto_merge.specs.Chances.{days_of, range_at, IsChance}

-- The ranges from the first one to before the place have no hole, each is shorter than t days, and so are they together.
pub record SoFar (rs : List Interval) (t first place : ℕ) : Type 0 where
  pub joined : (k : ℕ) → first ≤ k → k + 1 < place → (range_at rs k).end ≡ (range_at rs (k + 1)).start
  pub short : (k : ℕ) → first ≤ k → k < place → days_of (range_at rs k) < t
  pub few : (k : ℕ) → first ≤ k → k < place → (range_at rs k).end - (range_at rs first).start < t

module _ (rs : List Interval) (t first place : ℕ) where
  -- the range before the place ends where the one at the place starts
  abbrev pub GoesOn : Type 0
  GoesOn = first < place → (range_at rs (place - 1)).end ≡ (range_at rs place).start

  -- one range more
  pub so_far_more : SoFar rs t first place → GoesOn → days_of (range_at rs place) < t → (range_at rs place).end - (range_at rs first).start < t → SoFar rs t first (place + 1)
  so_far_more h on short few = record {
    joined = λ k low lt. elim (cases_eq (k + 1) place) [
      | inl e ↦
          let before : place - 1 ≡ k = omega arith in
          subst (λ (n : ℕ). (range_at rs k).end ≡ (range_at rs n).start) (sym e) (subst (λ (n : ℕ). (range_at rs n).end ≡ (range_at rs place).start) before (on (omega arith)))
      | inr ne ↦ h.joined k low (omega arith)
    ];
    short = λ k low lt. elim (cases_eq k place) [
      | inl e ↦ subst (λ (n : ℕ). days_of (range_at rs n) < t) (sym e) short
      | inr ne ↦ h.short k low (omega arith)
    ];
    few = λ k low lt. elim (cases_eq k place) [
      | inl e ↦ subst (λ (n : ℕ). (range_at rs n).end - (range_at rs first).start < t) (sym e) few
      | inr ne ↦ h.few k low (omega arith)
    ];
  }

  -- a chance reaches past what is too few together
  pub chance_past : SoFar rs t first place → (c : ℕ) → IsChance rs t first c → place < first + c
  chance_past h c chance =
      elim (cases_lt place (first + c)) [
        | inl lt ↦ lt
        | inr le ↦ absurd (omega (arith, chance.two, chance.enough, h.few (first + c - 1) (omega (arith, chance.two)) (omega (arith, chance.two))))
      ]

  -- so none has a long range, or a hole
  pub none_long : SoFar rs t first place → t ≤ days_of (range_at rs place) → first ≤ place → (c : ℕ) → ¬ (IsChance rs t first c)
  none_long h long low c chance = omega (arith, long, chance.short place low (chance_past h c chance))

  pub none_hole : SoFar rs t first place → ¬ GoesOn → (c : ℕ) → ¬ (IsChance rs t first c)
  none_hole h hole c chance =
      hole (λ lt.
      let past = chance_past h c chance in
      let next : place - 1 + 1 ≡ place = omega arith in
      subst (λ (n : ℕ). (range_at rs (place - 1)).end ≡ (range_at rs n).start) next (chance.joined (place - 1) (record { start = 0; end = 0 }) (omega arith) (omega arith)))

  -- the first place at which they are enough is the end of a chance
  pub chance_found : SoFar rs t first place → first ≤ place → place < length rs → GoesOn → days_of (range_at rs place) < t → t ≤ (range_at rs place).end - (range_at rs first).start → IsChance rs t first (place + 1 - first)
  chance_found h low within on short enough =
      let more : first < place = elim (cases_eq first place) [
        | inl e ↦ absurd (omega (arith, subst (λ (n : ℕ). t ≤ (range_at rs place).end - (range_at rs n).start) e enough, short))
        | inr ne ↦ omega arith
      ] in
      let last : first + (place + 1 - first) - 1 ≡ place = omega arith in
      let before : first + (place + 1 - first - 1) - 1 ≡ place - 1 = omega arith in
      record {
        two = omega arith;
        inside = omega arith;
        joined = λ k d from to.
            let k_in : k + 1 < length rs = omega (arith, within, to, last) in
            let here = get_or_default rs k d (record { start = 0; end = 0 }) (omega arith) in
            let there = get_or_default rs (k + 1) d (record { start = 0; end = 0 }) k_in in
            ap (λ (r : Interval). r.end) here ∙ link k from (omega (arith, to, last)) ∙ sym (ap (λ (r : Interval). r.start) there);
        short = λ k from to. elim (cases_eq k place) [
          | inl e ↦ subst (λ (n : ℕ). days_of (range_at rs n) < t) (sym e) short
          | inr ne ↦ h.short k from (omega arith)
        ];
        enough = subst (λ (n : ℕ). t ≤ (range_at rs n).end - (range_at rs first).start) (sym last) enough;
        least = subst (λ (n : ℕ). (range_at rs n).end - (range_at rs first).start < t) (sym before) (h.few (place - 1) (omega arith) (omega arith));
      }
    where
      link : (k : ℕ) → first ≤ k → k < place → (range_at rs k).end ≡ (range_at rs (k + 1)).start
      link k from to = elim (cases_eq (k + 1) place) [
        | inl e ↦
            let at : place - 1 ≡ k = omega arith in
            subst (λ (n : ℕ). (range_at rs k).end ≡ (range_at rs n).start) (sym e) (subst (λ (n : ℕ). (range_at rs n).end ≡ (range_at rs place).start) at (on (omega arith)))
        | inr ne ↦ h.joined k from (omega arith)
      ]

-- before the first range nothing is asked
pub so_far_none : (rs : List Interval) (t first : ℕ) → SoFar rs t first first
so_far_none rs t first = record {
  joined = λ k low lt. absurd (omega arith);
  short = λ k low lt. absurd (omega arith);
  few = λ k low lt. absurd (omega arith);
}

-- and at the end of the list there is no chance
pub none_at_end : (rs : List Interval) (t first : ℕ) (place : ℕ) → SoFar rs t first place → length rs ≤ place → (c : ℕ) → ¬ (IsChance rs t first c)
none_at_end rs t first place h end c chance = omega (arith, chance.inside, chance_past rs t first place h c chance)
