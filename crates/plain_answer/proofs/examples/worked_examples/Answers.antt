use Rattle.std.proofs.Common.{ℕ, ◌<◌, List, [], ◌∷◌, length, pos, refl, inl, inr, lit<}
use Rattle.std.specs.List.{Contains}
use Rattle.std.proofs.lemmas.List.Elements.{All-nil, Contains-push}
use Rattle.plain_answer.specs.declared.ask.Agg.{Agg}
use Rattle.plain_answer.specs.declared.cond.Lit.{Lit}
use Rattle.plain_answer.specs.declared.cond.Lit.TheVariants.{Number}
use Rattle.plain_answer.specs.declared.cond.Term.{Term}
use Rattle.plain_answer.specs.declared.cond.Term.TheVariants.{Agg as Agg'}
use Rattle.plain_answer.specs.Asks.{IsColumn, IsLitOf, IsOfGroup, IsSoundAgg, pairs_step, terms_step}
use Rattle.plain_answer.specs.Examples.{average_price, count_of_rows, small_regions}
use Rattle.plain_answer.specs.Projections.{columns_of}
use Rattle.plain_answer.proofs.ConditionLemmas.{at_compare, at_true}
use Rattle.plain_answer.proofs.LoopLemmas.{all_listed}
use Rattle.plain_answer.proofs.examples.worked_examples.Goals as goal

pub returns-clause-best : goal.returns-clause-best
returns-clause-best c = simp at_true

pub returns-clause-small : goal.returns-clause-small
returns-clause-small c = simp (at_true, at_compare)

pub returns-clause-none : goal.returns-clause-none
returns-clause-none c = simp at_true

pub returns-clause-in_january : goal.returns-clause-in_january
returns-clause-in_january c = simp at_true

pub returns-clause-in_february : goal.returns-clause-in_february
returns-clause-in_february c = simp at_true

pub returns-clause-in_both : goal.returns-clause-in_both
returns-clause-in_both c = simp at_true

pub returns-clause-projections : goal.returns-clause-projections
unfolding columns_of
returns-clause-projections c = refl

pub returns-clause-one_projection : goal.returns-clause-one_projection
unfolding columns_of
returns-clause-one_projection c = refl

pub returns-clause-no_projection : goal.returns-clause-no_projection
unfolding columns_of
returns-clause-no_projection c = refl

-- what the parts of the ask are asked
count_is_sound : IsSoundAgg count_of_rows
count_is_sound = inl refl

average_is_sound : IsSoundAgg average_price
average_is_sound = inr (refl, tt)

pub returns-clause-sound : goal.returns-clause-sound
returns-clause-sound c =
    let aggs : List Agg = average_price ∷ count_of_rows ∷ [] in
    let of_group : Term → Type 0 = IsOfGroup (0 ∷ []) aggs in
    let is_lit : Term × Lit → Type 0 = λ pair. IsLitOf pair.0 pair.1 in
    let region : Contains (0 ∷ []) 0 = Contains-push {X = ℕ} [] 0 in
    let in_aggs : (n : ℕ) → n < 2 → n < length aggs = λ n h. h in
    record {
      aggregates = all_listed IsSoundAgg aggs (average_is_sound, (count_is_sound, tt));
      filter_columns = rw (at_true terms_step) (All-nil IsColumn);
      filter_literals = rw (at_true pairs_step) (All-nil is_lit);
      having_terms = rw (at_compare terms_step) (all_listed of_group (Agg' 1 ∷ []) (in_aggs 1 (lit< tt), tt));
      having_literals = rw (at_compare pairs_step) (all_listed is_lit ((Agg' 1, Number (pos 30000)) ∷ []) (tt, tt));
      outs = all_listed (λ out. of_group out.term) small_regions.outs (region, (in_aggs 0 (lit< tt), tt));
      order = all_listed (λ key. of_group key.term) small_regions.order (in_aggs 0 (lit< tt), tt);
    }
