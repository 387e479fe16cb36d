use Rattle.std.proofs.Common.{◌≡◌, ◌<◌, ◌-◌, ℕ, List, length, get_or, inl, inr, sym, subst, ◌∙◌, arith}
use Rattle.std.specs.Prelude.{slice_index}
use Rattle.std.specs.List.Sorted.{IsStrictlyIncreasing}
use Rattle.std.proofs.lemmas.Bool.{cases_lt, cases_eq}
use Rattle.std.proofs.lemmas.List.{get_or_default}
use Rattle.std.proofs.lemmas.List.Kept.{AllPairs-from_increasing}
use Rattle.auto_merge.specs.Chances.{IsChance}
use Rattle.auto_merge.proofs.chance.next_run.Goals as goal

-- a threshold that is greater stands later
later : (days : List ℕ) → IsStrictlyIncreasing days → (i k : ℕ) → i < length days → k < length days → get_or days i 0 < get_or days k 0 → i < k
later days rising i k i_in k_in less =
    elim (cases_lt i k) [
      | inl lt ↦ lt
      | inr le ↦ elim (cases_eq i k) [
        | inl e ↦ absurd (omega (arith, subst (λ (n : ℕ). get_or days i 0 < get_or days n 0) (sym e) less))
        | inr ne ↦ absurd (omega (arith, less, AllPairs-from_increasing days rising k i 0 (omega arith) i_in))
      ]
    ]

pub returns-in-Some-clause-next : goal.returns-in-Some-clause-next
returns-in-Some-clause-next c =
    let days = c.args.days.now in
    let i = length days - 1 - c.loop-i.i in
    record {
      threshold = slice_index days i;
      listed = (i, omega (arith, c.loop-i-test.true), get_or_default days i (slice_index days i) 0 (omega (arith, c.loop-i-test.true)));
      chance = c.in-Some.ensures.chance;
      greatest = λ t f n at less chance.
          let value : get_or days at.0 0 ≡ t = get_or_default days at.0 0 t at.1 ∙ at.2 in
          let behind = later days c.requires.rising i at.0 (omega (arith, c.loop-i-test.true)) at.1 (omega (arith, less, value)) in
          c.loop-i.invariant at.0 f n (omega (arith, behind, c.loop-i-test.true)) at.1 (subst (λ (x : ℕ). IsChance c.args.ranges.now x f n) (sym value) chance);
      earliest = c.in-Some.ensures.earliest;
    }

pub returns-clause-none : goal.returns-clause-none
returns-clause-none c = λ t f n at chance.
    let days = c.args.days.now in
    let value : get_or days at.0 0 ≡ t = get_or_default days at.0 0 t at.1 ∙ at.2 in
    c.loop-i.invariant at.0 f n (omega (arith, c.loop-i-test.false)) at.1 (subst (λ (x : ℕ). IsChance c.args.ranges.now x f n) (sym value) chance)
