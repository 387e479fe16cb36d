-- A log that a disk keeps.
use Rattle.std.specs.Prelude.{◌≡◌, ◌≢◌, ◌⊎◌, ◌++◌, [], ◌∷◌, ℕ, List, Option, Some, All, length}
use Rattle.disk_image.specs.Crashes.{IsDurable}
use Rattle.entry_log.specs.Logs.{entries_text, FitsBody, HasEntries}

-- The disk reads as a log of these bodies whose gate, at this place, is closed, and a crash leaves just that.
pub record Keeps (content : Option (List ℕ)) (crash_image : List ℕ → Type 0) (gate : ℕ) (bodies : List (List ℕ)) : Type 0 where
  pub byte : ℕ
  pub rest : List ℕ
  pub closed : byte ≢ 1
  pub told : content ≡ Some (entries_text bodies ++ byte ∷ rest)
  pub place : gate ≡ length (entries_text bodies)
  pub fits : All FitsBody bodies
  pub only : IsDurable (entries_text bodies ++ byte ∷ rest) crash_image

-- the bytes are the log from before, or that with one more body
abbrev pub IsBeforeOrAfter : List (List ℕ) → List ℕ → List ℕ → Type 0
IsBeforeOrAfter bodies body bytes = HasEntries bytes bodies ⊎ HasEntries bytes (bodies ++ body ∷ [])

-- there are no bytes, or they are the log without entries
abbrev pub IsEmptyOr : List ℕ → Type 0
IsEmptyOr bytes = (bytes ≡ []) ⊎ HasEntries bytes []

-- the bytes have the entries that these have, where these are a log
abbrev pub IsStill : List ℕ → List ℕ → Type 0
IsStill file bytes = (bodies : List (List ℕ)) → HasEntries file bodies → HasEntries bytes bodies

-- the bytes are one of these images, or have the entries that the file has
abbrev pub IsEarlierOr : (List ℕ → Type 0) → List ℕ → List ℕ → Type 0
IsEarlierOr images file bytes = images bytes ⊎ IsStill file bytes
