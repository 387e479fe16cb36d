-- The least and the greatest of a list of items.
use Rattle.std.specs.Prelude.{◌≡◌, ◌≤◌, ◌+◌, ◌↔◌, ℕ, ℤ, List, Option, Some, None, IsNone, length}
use Rattle.std.specs.Int.{int_max, int_min}
use Rattle.std.specs.List.{reduce}
use Rattle.measure_laws.specs.Measures.{most_items}

-- the least or the greatest item, if there is one, and of how many items it is
pub record Extreme : Type 0 where
  pub items : ℕ
  pub value : Option ℤ

-- of two numbers the one that is picked; where there is but one, that one
abbrev pub picked : (ℤ → ℤ → ℤ) → Option ℤ → Option ℤ → Option ℤ
picked pick None b = b
picked pick (Some x) None = Some x
picked pick (Some x) (Some y) = Some (pick x y)

-- the least of a list of items
abbrev pub least_of : List ℤ → Extreme
least_of xs = record { items = length xs; value = reduce int_min xs }

-- the greatest of a list of items
abbrev pub greatest_of : List ℤ → Extreme
greatest_of xs = record { items = length xs; value = reduce int_max xs }

-- the least of two lists joined, from the least of each
abbrev pub merged_least : Extreme → Extreme → Extreme
merged_least a b = record { items = a.items + b.items; value = picked int_min a.value b.value }

-- the greatest of two lists joined, from the greatest of each
abbrev pub merged_greatest : Extreme → Extreme → Extreme
merged_greatest a b = record { items = a.items + b.items; value = picked int_max a.value b.value }

-- it is of few enough items, and there is no value exactly where there is no item
pub record IsExtreme (e : Extreme) : Type 0 where
  pub few : e.items ≤ most_items
  pub none : IsNone e.value ↔ (e.items ≡ 0)
