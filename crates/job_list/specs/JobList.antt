-- A list of numbers without repeats, and its capacity.
use Rattle.std.specs.Prelude.{ℕ, ◌≡◌, Bool, false, not, ◌==◌, List, [], ◌∷◌, filter}
use Rattle.std.specs.List.{list_any}

-- the numbers in their order, and the capacity below which all of them lie
pub record NumberList : Type 0 where
  pub items : List ℕ
  pub capacity : ℕ

-- whether a number is in the list
abbrev pub has : List ℕ → ℕ → Bool
has items id = list_any (λ item. item == id) items

-- the list without a number; the others keep their order
abbrev pub without : ℕ → List ℕ → List ℕ
without id items = filter (λ item. not (item == id)) items

-- no number stands in the list twice
abbrev pub NoRepeats : List ℕ → Type 0
NoRepeats [] = Unit {0}
NoRepeats (item ∷ rest) = (has rest item ≡ false) × NoRepeats rest
