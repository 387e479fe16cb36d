-- Sets of dimensions. A set is told by its test: whether a dimension is in it.
use Rattle.std.specs.Prelude.{ℕ, Bool, not, ◌==◌, ◌||◌, ◌⊎◌, List, All, AllPairs, IsTrue, IsFalse, count_by}
use Rattle.std.specs.List.{list_all, list_any, range_with_len}

-- the dimensions of a cube that has n of them: 0, 1, .., n - 1
abbrev pub dimensions : ℕ → List ℕ
dimensions n = range_with_len 0 n

-- d is in the list
abbrev pub is_among : ℕ → List ℕ → Bool
is_among d ds = list_any (λ x. x == d) ds

-- how many dimensions the set has; none is above 63
unfoldable pub size_of : (ℕ → Bool) → ℕ
size_of s = count_by s (dimensions 64)

-- each dimension of s is in t; no dimension is above 63
unfoldable pub is_subset : (ℕ → Bool) → (ℕ → Bool) → Bool
is_subset s t = list_all (λ d. not (s d) || t d) (dimensions 64)

-- With each member of the list the set has all earlier ones:
abbrev pub KeepsHierarchy : (ℕ → Bool) → List ℕ → Type 0
KeepsHierarchy s ds = AllPairs (λ earlier later. IsTrue (s later) → IsTrue (s earlier)) ds

-- it has all members, or none:
abbrev pub KeepsJoint : (ℕ → Bool) → List ℕ → Type 0
KeepsJoint s ds = All (λ d. IsTrue (s d)) ds ⊎ All (λ d. IsFalse (s d)) ds
