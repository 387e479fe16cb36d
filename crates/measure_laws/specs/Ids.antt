-- Finite sets of numbers, and the different items of a list.
use Rattle.std.specs.Prelude.{◌≡◌, ◌≤◌, ◌+◌, ◌↔◌, ℕ, List, [], ◌∷◌, ◌++◌, length}
use Rattle.std.specs.BTreeSet.{insert_key}
use Rattle.std.specs.Cmp.{nat_cmp_total}
use Rattle.std.specs.List.Sorted.{IsStrictlySortedBy}
use Rattle.std.specs.Ordering.{nat_cmp}
use Rattle.measure_laws.specs.Measures.{most_items}
use Rattle.measure_laws.specs.RisingFacts.{rises-insert_key}

-- the different numbers of a list, strictly rising: each is put in its place unless it is there
abbrev pub different : List ℕ → List ℕ
different [] = []
different (x ∷ xs) = insert_key nat_cmp (different xs) x

-- a finite set of numbers, as its members in order, and of how many items it is the set
pub record Ids : Type 0 where
  pub items : ℕ
  pub ids : List ℕ
  pub rising : IsStrictlySortedBy nat_cmp ids

pub rises-different : (xs : List ℕ) → IsStrictlySortedBy nat_cmp (different xs)
unfolding IsStrictlySortedBy
rises-different [] = tt
rises-different (x ∷ xs) = rises-insert_key nat_cmp_total (different xs) x (rises-different xs)

-- the set of a list of items
abbrev pub ids_of : List ℕ → Ids
ids_of xs = record { items = length xs; ids = different xs; rising = rises-different xs }

-- the set of two lists joined, from the set of each
abbrev pub merged_ids : Ids → Ids → Ids
merged_ids a b = record { items = a.items + b.items; ids = different (a.ids ++ b.ids); rising = rises-different (a.ids ++ b.ids) }

-- so many items can have these different ones: they are no more than the items, and there is none exactly where there is no item
pub record IsCountOf (ids : List ℕ) (items : ℕ) : Type 0 where
  pub few : items ≤ most_items
  pub fewer : length ids ≤ items
  pub none : (ids ≡ []) ↔ (items ≡ 0)
