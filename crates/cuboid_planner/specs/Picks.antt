-- The choices of a plan.
use Rattle.std.specs.Prelude.{◌≡◌, ℕ, ◌+◌, ◌<◌, ◌≤◌, ◌++◌, [], ◌∷◌, List, length, take, slice_index_or}
use Rattle.cuboid_planner.specs.declared.cuboid.Size.{Size}
use Rattle.cuboid_planner.specs.declared.cuboid.Pick.{Pick}
use Rattle.cuboid_planner.specs.Sizes.{size_at}
use Rattle.cuboid_planner.specs.Costs.{benefit, total}

-- The next choice is the cuboid with the greatest benefit, if that is above 0, and of several such the one with the least mask.
pub record IsNextPick (sizes : List Size) (picks : List Pick) (p : Pick) : Type 0 where
  pub place : ℕ
  pub inside : place < length sizes
  pub mask : p.mask ≡ (size_at sizes place).mask
  pub rows : p.rows ≡ (size_at sizes place).rows
  pub saved : p.benefit ≡ benefit sizes picks (size_at sizes place)
  pub some : 0 < p.benefit
  pub greatest : (k : ℕ) → k < length sizes → benefit sizes picks (size_at sizes k) ≤ p.benefit
  pub least : (k : ℕ) → k < length sizes → benefit sizes picks (size_at sizes k) ≡ p.benefit → p.mask.0 ≤ (size_at sizes k).mask.0
  pub all : p.total ≡ total sizes (picks ++ p ∷ [])

-- no cuboid saves anything
abbrev pub HasNoPick : List Size → List Pick → Type 0
HasNoPick sizes picks = (k : ℕ) → k < length sizes → benefit sizes picks (size_at sizes k) ≡ 0

-- each of the choices is the next one after those before it
abbrev pub ArePicks : List Size → List Pick → Type 0
ArePicks sizes picks = (i : ℕ) (d : Pick) → i < length picks → IsNextPick sizes (take i picks) (slice_index_or picks i d)

-- The plan of at most so many choices: it ends early only where nothing is saved any more.
pub record IsPlan (sizes : List Size) (most : ℕ) (picks : List Pick) : Type 0 where
  pub each : ArePicks sizes picks
  pub few : length picks ≤ most
  pub whole : length picks < most → HasNoPick sizes picks

-- the most choices of a plan
abbrev pub most_picks : ℕ
most_picks = 8

-- The choices are the first of the plan, and not too many.
abbrev pub IsTrace : List Size → List Pick → Type 0
IsTrace sizes picks = ArePicks sizes picks × (length picks ≤ most_picks)

-- The first choice that isn't of the plan stands at the place.
pub record IsFirstWrong (sizes : List Size) (picks : List Pick) (place : ℕ) : Type 0 where
  pub inside : place < length picks
  pub before : IsTrace sizes (take place picks)
  pub wrong : ¬ (IsTrace sizes (take (place + 1) picks))
