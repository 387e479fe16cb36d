-- The plan: which ranges are dropped, and which are merged.
use Rattle.std.specs.Prelude.{◌≡◌, ℕ, ◌+◌, List, [], ◌∷◌, ◌++◌, map}
use Rattle.std.specs.List.{replace_range}
use Rattle.range_list.specs.Ranges.{Interval}
use Rattle.auto_merge.specs.declared.action.Action.{Action}
use Rattle.auto_merge.specs.declared.action.Action.TheVariants.{Drop, Merge}
use Rattle.auto_merge.specs.Chances.{whole, IsNext, HasNoChance}
use Rattle.auto_merge.specs.Expiry.{expired, kept}

-- the ranges with one range in the place of so many neighbours
abbrev pub merged : List Interval → ℕ → ℕ → List Interval
merged rs first count = replace_range rs first (first + count) (whole rs first count ∷ [])

-- one merge after the other, each the next one at its turn, make left of the ranges rs
abbrev pub AreMerges : List ℕ → List Interval → List Interval → List Interval → Type 0
AreMerges days rs [] left = rs ≡ left
AreMerges days rs (r ∷ more) left =
    (first : ℕ) × (count : ℕ) × IsNext days rs first count × (r ≡ whole rs first count) × AreMerges days (merged rs first count) more left

-- The plan is the drops of the expired ranges in order, and then merges until the ranges that are left have no chance.
pub record IsPlan (rs : List Interval) (days : List ℕ) (retain : ℕ) (actions : List Action) : Type 0 where
  pub merges : List Interval
  pub left : List Interval
  pub listed : actions ≡ map Drop (expired retain rs) ++ map Merge merges
  pub each_next : AreMerges days (kept retain rs) merges left
  pub no_more : HasNoChance days left
