-- Sales joined with the cities of their sellers, and asks of the joined rows.
use Rattle.std.specs.Prelude.{ℕ, List, [], ◌∷◌, None, true, false, codes, pos}
use Rattle.cube_val.specs.declared.val.ColType.TheVariants as ty
use Rattle.cube_val.specs.declared.val.Val.{Val}
use Rattle.cube_val.specs.declared.val.Val.TheVariants.{Int}
use Rattle.flat_join.specs.JoinExamples.{plan_of, sale, sellers}
use Rattle.flat_join.specs.Joins.{joined}
use Rattle.plain_answer.specs.declared.ask.AggKind.TheVariants as kind
use Rattle.plain_answer.specs.declared.ask.Ask.{Ask}
use Rattle.plain_answer.specs.declared.cond.Cond.TheVariants as cond
use Rattle.plain_answer.specs.declared.cond.Lit.TheVariants as lit
use Rattle.plain_answer.specs.declared.cond.Term.TheVariants.{Col, Agg as Agg'}
use Rattle.plain_answer.specs.declared.cond.Test.TheVariants.{Ne}
use Rattle.range_list.specs.Ranges.{Interval}

-- the sales of two months by the sellers 7, 8, 7 and 8
abbrev pub sales : List (List Val)
sales =
    sale (codes "2012-01-01") (Int (pos 7)) ∷ sale (codes "2012-01-01") (Int (pos 8)) ∷ sale (codes "2012-01-15") (Int (pos 7))
    ∷ sale (codes "2012-02-01") (Int (pos 8)) ∷ []

-- January and February 2012
abbrev pub two_months : Interval
two_months = record { start = 734868; end = 734928 }

-- the sales of these months with the cities of their sellers, as a left join and as an inner one
abbrev pub left_rows : List (List Val)
left_rows = joined (plan_of false) (sales ∷ sellers ∷ []) two_months

abbrev pub inner_rows : List (List Val)
inner_rows = joined (plan_of true) (sales ∷ sellers ∷ []) two_months

-- how many sales each city has
abbrev pub by_city : Ask
by_city = record {
  filter = cond.True;
  group = 1 ∷ [];
  aggs = record { kind = kind.Count; column = None; ty = ty.Int } ∷ [];
  outs = record { name = codes "CITY"; term = Col 1 ty.Text } ∷ record { name = codes "COUNT(*)"; term = Agg' 0 } ∷ [];
  having = cond.True;
  order = [];
  limit = None;
}

-- the same of the cities other than Lyon
abbrev pub by_other_city : Ask
by_other_city = record by_city { filter = cond.Compare (Col 1 ty.Text) Ne (lit.Text (codes "Lyon")) }
