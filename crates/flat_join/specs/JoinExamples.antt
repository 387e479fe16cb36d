-- A fact table with a lookup.
use Rattle.std.specs.Prelude.{ℕ, List, [], ◌∷◌, Bool, codes, pos}
use Rattle.cube_val.specs.declared.form.JoinPlan.{JoinPlan}
use Rattle.cube_val.specs.declared.form.JoinStep.{JoinStep}
use Rattle.cube_val.specs.declared.val.Val.{Val}
use Rattle.cube_val.specs.declared.val.Val.TheVariants.{Null, Int, Text}

-- the seller of a sale, in its second column, is the first column of a lookup
abbrev pub by_seller : Bool → JoinStep
by_seller inner = record { inner = inner; foreign = 1 ∷ []; primary = 0 ∷ [] }

-- a date and a seller
abbrev pub sale : List ℕ → Val → List Val
sale date seller = Text date ∷ seller ∷ []

-- seller 7 lives in Lyon, and one who has no number in Oslo
abbrev pub sellers : List (List Val)
sellers = (Null ∷ Text (codes "Oslo") ∷ []) ∷ (Int (pos 7) ∷ Text (codes "Lyon") ∷ []) ∷ []

-- the seller, the city and the date of each sale
abbrev pub plan_of : Bool → JoinPlan
plan_of inner = record {
  partition = 0;
  joins = by_seller inner ∷ [];
  wide = record { table = 0; column = 1 } ∷ record { table = 1; column = 1 } ∷ record { table = 0; column = 0 } ∷ [];
}
