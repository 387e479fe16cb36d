-- Half-open ranges of days, and lists of them that are apart.
use Rattle.std.specs.Prelude.{◌≡◌, ◌≢◌, ◌≤◌, ◌<◌, ◌+◌, ◌⊎◌, ℕ, List, [], ◌∷◌, All, AllPairs, Any, slice_get, slice_index_or, slice_range, length, Some}

-- a range of days by their numbers: the start is in it, the end is not
pub record Interval : Type 0 where
  pub start : ℕ
  pub end : ℕ

-- the start comes before the end
abbrev pub IsRange : Interval → Type 0
IsRange r = r.start < r.end

-- the day lies in the range
abbrev pub Holds : Interval → ℕ → Type 0
Holds r day = (r.start ≤ day) × (day < r.end)

-- some day lies in both
abbrev pub Overlaps : Interval → Interval → Type 0
Overlaps r s = (day : ℕ) × (Holds r day × Holds s day)

-- r ends at or before the start of s
abbrev pub IsBefore : Interval → Interval → Type 0
IsBefore r s = r.end ≤ s.start

-- the ranges rise, and no two of them have a day in common
abbrev pub IsApart : List Interval → Type 0
IsApart rs = All IsRange rs × AllPairs IsBefore rs

-- no range of the list has a day in common with r
abbrev pub IsFree : List Interval → Interval → Type 0
IsFree rs r = All (λ s. ¬ (Overlaps s r)) rs

-- i is the least place of a range that has a day in common with r
pub record IsFirstOverlap (rs : List Interval) (r : Interval) (i : ℕ) : Type 0 where
  pub there : Interval
  pub at : slice_get rs i ≡ Some there
  pub overlaps : Overlaps there r
  pub before : (k : ℕ) (s : Interval) → k < i → slice_get rs k ≡ Some s → ¬ (Overlaps s r)

-- ---- coverings

-- the first range starts at the one day, each next one where the last one ends, and the last ends at the other day
abbrev pub EndToEnd : ℕ → ℕ → List Interval → Type 0
EndToEnd from to [] = from ≡ to
EndToEnd from to (r ∷ rs) = (r.start ≡ from) × EndToEnd r.end to rs

-- from the one place to the other each range ends where the next one starts
abbrev pub AreJoined : List Interval → ℕ → ℕ → Type 0
AreJoined rs first last = (k : ℕ) (d : Interval) → first ≤ k → k < last → (slice_index_or rs k d).end ≡ (slice_index_or rs (k + 1) d).start

-- no range starts where r starts, or none ends where r ends
abbrev pub IsOffBounds : List Interval → Interval → Type 0
IsOffBounds rs r = All (λ s. s.start ≢ r.start) rs ⊎ All (λ s. s.end ≢ r.end) rs

-- one starts where r starts, and one ends where r ends
abbrev pub IsOnBounds : List Interval → Interval → Type 0
IsOnBounds rs r = Any (λ s. s.start ≡ r.start) rs × Any (λ s. s.end ≡ r.end) rs

-- the day is the first one of r that lies in no range of the list
pub record IsFirstFreeDay (rs : List Interval) (r : Interval) (day : ℕ) : Type 0 where
  pub inside : Holds r day
  pub free : All (λ s. ¬ (Holds s day)) rs
  pub before : (d : ℕ) → r.start ≤ d → d < day → Any (λ s. Holds s d) rs

-- so many ranges from the first place on fill r end to end
abbrev pub Fills : List Interval → Interval → ℕ → ℕ → Type 0
Fills rs r first count = (first + count ≤ length rs) × EndToEnd r.start r.end (slice_range rs first (first + count))
