use Rattle.std.proofs.Common.{◌≡◌, ℕ, [], ◌∷◌, List, codes, pos, refl, ap, ◌∙◌}
use Rattle.jiff_core.specs.Calendar.{day_count, days_of_months, days_of_years}
use Rattle.calendar.specs.Dates.{day_number, day_of, day_with}
use Rattle.cube_val.specs.declared.val.Val.{Val}
use Rattle.cube_val.specs.declared.val.Val.TheVariants.{Null, Int, Text}
use Rattle.flat_join.specs.Examples.{by_city, by_other_city, inner_rows, left_rows}
use Rattle.plain_answer.specs.Answers.{plain_of}
use Rattle.plain_answer.proofs.ConditionLemmas.{at_compare, at_true}
use Rattle.flat_join.proofs.examples.worked_examples.Goals as goal

-- the joined rows: seller, city and date
of_lyon : List ℕ → List Val
of_lyon date = Int (pos 7) ∷ Text (codes "Lyon") ∷ Text date ∷ []

of_none : List ℕ → List Val
of_none date = Int (pos 8) ∷ Null ∷ Text date ∷ []

left_seen : List (List Val)
left_seen = of_lyon (codes "2012-01-01") ∷ of_none (codes "2012-01-01") ∷ of_lyon (codes "2012-01-15") ∷ of_none (codes "2012-02-01") ∷ []

inner_seen : List (List Val)
inner_seen = of_lyon (codes "2012-01-01") ∷ of_lyon (codes "2012-01-15") ∷ []

left_are : left_rows ≡ left_seen
unfolding left_seen of_lyon of_none day_of day_with day_number day_count days_of_years days_of_months
left_are = refl

inner_are : inner_rows ≡ inner_seen
unfolding inner_seen of_lyon day_of day_with day_number day_count days_of_years days_of_months
inner_are = refl

pub returns-clause-left : goal.returns-clause-left
unfolding left_seen of_lyon of_none
returns-clause-left c = ap (λ (rows : List (List Val)). (plain_of by_city rows).rows) left_are ∙ simp at_true

pub returns-clause-other : goal.returns-clause-other
unfolding left_seen of_lyon of_none
returns-clause-other c = ap (λ (rows : List (List Val)). (plain_of by_other_city rows).rows) left_are ∙ simp (at_true, at_compare)

pub returns-clause-inner : goal.returns-clause-inner
unfolding inner_seen of_lyon
returns-clause-inner c = ap (λ (rows : List (List Val)). (plain_of by_city rows).rows) inner_are ∙ simp at_true
