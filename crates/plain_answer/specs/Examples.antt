-- A small table of sales, and asks of it.
use Rattle.std.specs.Prelude.{ℕ, ℤ, pos, neg_ℤ, List, [], ◌∷◌, Some, None, true, codes}
use Rattle.agg_group.specs.declared.mask.Mask.{Mask}
use Rattle.cube_val.specs.declared.val.ColType.TheVariants as ty
use Rattle.cube_val.specs.declared.val.Val.{Val}
use Rattle.cube_val.specs.declared.val.Val.TheVariants.{Int, Null, Text}
use Rattle.plain_answer.specs.declared.ask.Agg.{Agg}
use Rattle.plain_answer.specs.declared.ask.AggKind.TheVariants as kind
use Rattle.plain_answer.specs.declared.ask.Ask.{Ask}
use Rattle.plain_answer.specs.declared.cond.Cond.TheVariants as cond
use Rattle.plain_answer.specs.declared.cond.Lit.TheVariants.{Number}
use Rattle.plain_answer.specs.declared.cond.Term.TheVariants.{Col, Agg as Agg'}
use Rattle.plain_answer.specs.declared.cond.Test.TheVariants.{Lt}

-- a sale: its region, its seller, and its price in units of 1/10000
abbrev sale : List ℕ → ℕ → ℤ → List Val
sale region seller price = Text region ∷ Int (pos seller) ∷ Int price ∷ []

abbrev pub january : List (List Val)
january = sale (codes "EU") 7 (pos 100000) ∷ sale (codes "EU") 8 (pos 55000) ∷ sale (codes "US") 7 (pos 10000) ∷ []

abbrev pub february : List (List Val)
february = sale (codes "EU") 8 (neg_ℤ (pos 22500)) ∷ []

-- a sale without a price
abbrev unpriced : List ℕ → ℕ → List Val
unpriced region seller = Text region ∷ Int (pos seller) ∷ Null ∷ []

-- the sales of january, where the first has no price
abbrev pub january_with_a_hole : List (List Val)
january_with_a_hole = unpriced (codes "EU") 7 ∷ sale (codes "EU") 8 (pos 55000) ∷ sale (codes "US") 7 (pos 10000) ∷ []

-- .. where neither of EU has one
abbrev pub january_with_two_holes : List (List Val)
january_with_two_holes = unpriced (codes "EU") 7 ∷ unpriced (codes "EU") 8 ∷ sale (codes "US") 7 (pos 10000) ∷ []

abbrev pub average_price : Agg
average_price = record { kind = kind.Avg; column = Some 2; ty = ty.Decimal }

abbrev pub count_of_rows : Agg
count_of_rows = record { kind = kind.Count; column = None; ty = ty.Int }

abbrev pub known_prices : Agg
known_prices = record { kind = kind.Known; column = Some 2; ty = ty.Decimal }

abbrev pub total_price : Agg
total_price = record { kind = kind.Sum; column = Some 2; ty = ty.Decimal }

abbrev pub sellers : Agg
sellers = record { kind = kind.Distinct; column = Some 1; ty = ty.Int }

-- no dimension, and the region alone
abbrev pub no_dims : Mask
no_dims = record { 0 = 0 }

abbrev pub by_region : Mask
by_region = record { 0 = 1 }

-- the region with the greatest average price
abbrev pub best_region : Ask
best_region = record {
  filter = cond.True;
  group = 0 ∷ [];
  aggs = average_price ∷ [];
  outs = record { name = codes "REGION"; term = Col 0 ty.Text } ∷ record { name = codes "A"; term = Agg' 0 } ∷ [];
  having = cond.True;
  order = record { term = Agg' 0; falling = true } ∷ [];
  limit = Some 1;
}

-- the average prices of the regions with fewer than three sales
abbrev pub small_regions : Ask
small_regions = record best_region {
  aggs = average_price ∷ count_of_rows ∷ [];
  having = cond.Compare (Agg' 1) Lt (Number (pos 30000));
  limit = None;
}

-- how many sales there are, for how much, and by how many sellers
abbrev pub totals : Ask
totals = record {
  filter = cond.True;
  group = [];
  aggs = count_of_rows ∷ total_price ∷ sellers ∷ [];
  outs = record { name = codes "N"; term = Agg' 0 } ∷ record { name = codes "S"; term = Agg' 1 } ∷ record { name = codes "D"; term = Agg' 2 } ∷ [];
  having = cond.True;
  order = [];
  limit = None;
}
