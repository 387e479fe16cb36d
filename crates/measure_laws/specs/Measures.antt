-- What the measure of a list of items is, and the laws by which the measures of parts are merged.
use Rattle.std.specs.Prelude.{◌≡◌, ◌≤◌, ◌+◌, ◌*◌, ◌^◌, ℕ, ℤ, pos, neg_ℤ, ◌+ℤ◌, ◌≤ℤ◌, List, [], ◌∷◌, ◌++◌, length}

-- the most items that a measure is of
abbrev pub most_items : ℕ
most_items = 2 ^ 40

-- the greatest absolute value of an item, which is an i64
abbrev pub most_of_item : ℕ
most_of_item = 2 ^ 63

-- a sum, and of how many items it is
pub record Summed : Type 0 where
  pub items : ℕ
  pub total : ℤ

-- the sum of the items, one after another
abbrev pub int_sum : List ℤ → ℤ
int_sum [] = pos 0
int_sum (x ∷ xs) = x +ℤ int_sum xs

-- the sum of a list of items
abbrev pub summed : List ℤ → Summed
summed xs = record { items = length xs; total = int_sum xs }

-- the sum of two lists joined, from the sum of each
abbrev pub merged_sum : Summed → Summed → Summed
merged_sum a b = record { items = a.items + b.items; total = a.total +ℤ b.total }

-- a sum is of few enough items, and no farther from zero than that many items can bring it
pub record IsSum (s : Summed) : Type 0 where
  pub few : s.items ≤ most_items
  pub low : neg_ℤ (pos (s.items * most_of_item)) ≤ℤ s.total
  pub high : s.total ≤ℤ pos (s.items * most_of_item)

-- the laws of a measure: `of` gives the measure of a list of items, `merge` the measure of two lists joined,
-- and `items` says how many items a measure is of
pub record MeasureLaws {Item M : Type 0} (items : M → ℕ) (of : List Item → M) (merge : M → M → M) : Type 0 where
  pub associative : (a b c : M) → merge (merge a b) c ≡ merge a (merge b c)
  pub commutative : (a b : M) → merge a b ≡ merge b a
  pub neutral : (a : M) → merge (of []) a ≡ a
  pub joined : (xs ys : List Item) → of (xs ++ ys) ≡ merge (of xs) (of ys)
  pub counted : (xs : List Item) → items (of xs) ≡ length xs
  pub counts_add : (a b : M) → items (merge a b) ≡ items a + items b
