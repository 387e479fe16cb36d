-- What a list of hands did between two moments, whatever the order of the hands.
use Rattle.std.specs.Prelude.{◌≡◌, ◌≤◌, ◌<◌, ◌+◌, ◌-◌, ◌^◌, ◌++◌, ℕ, List, Option, Some, All, IsSome, sum_by, map, unwrap_or, []}
use Rattle.std.specs.List.{flat_map}
use Rattle.std.specs.List.Sorted.{IsPermutation}

-- no hand's count stands at the greatest number of a u64
abbrev pub AreBelow : {H : Type 0} → (H → ℕ) → List H → Type 0
AreBelow count hands = All (λ hand. count hand < 2 ^ 64 - 1) hands

-- the hands' counts, added up, rose by n at least, unless one of them stands at its greatest number now
pub record Risen {H : Type 0} (count : H → ℕ) (old new : List H) (n : ℕ) : Type 0 where
  pub below : AreBelow count new → AreBelow count old
  pub by : AreBelow count new → sum_by count old + n ≤ sum_by count new

-- the hands tell what they told, up to order: a member that no call changes
pub record TellSame {H F : Type 0} (told : H → Option F) (old new : List H) : Type 0 where
  pub same : IsPermutation (map told old) (map told new)

-- each hand tells its list
abbrev pub AllTell : {H E : Type 0} → (H → Option (List E)) → List H → Type 0
AllTell told hands = All (λ hand. IsSome (told hand)) hands

-- each hand tells this
abbrev pub AllTellThat : {H F : Type 0} → (H → Option F) → F → List H → Type 0
AllTellThat told this hands = All (λ hand. told hand ≡ Some this) hands

-- what the hands' lists hold, one after another
abbrev pub entries_of : {H E : Type 0} → (H → Option (List E)) → List H → List E
entries_of told hands = flat_map (λ hand. unwrap_or (told hand) []) hands

-- where each hand tells its list, the lists gained these entries, up to order
pub record Gained {H E : Type 0} (told : H → Option (List E)) (old new : List H) (entries : List E) : Type 0 where
  pub tell : AllTell told new → AllTell told old
  pub by : AllTell told new → IsPermutation (entries_of told old ++ entries) (entries_of told new)
