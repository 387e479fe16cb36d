-- How the crash images of a file change over calls. A crash image is the bytes that a loss of power may leave of it.
use Rattle.std.specs.Prelude.{◌≡◌, ◌⊎◌, ◌≤◌, ℕ, List}

-- The bytes are durable: a crash leaves them and nothing else.
abbrev pub IsDurable : List ℕ → (List ℕ → Type 0) → Type 0
IsDurable bytes crash_image = (left : List ℕ) → crash_image left → left ≡ bytes

-- A call adds no crash image.
abbrev pub NoNewImage : (List ℕ → Type 0) → (List ℕ → Type 0) → Type 0
NoNewImage old_image new_image = (left : List ℕ) → new_image left → old_image left

-- A call makes its crash images, by this relation, of those that there were.
abbrev pub ImagesBy : (List ℕ → List ℕ → Type 0) → (List ℕ → Type 0) → (List ℕ → Type 0) → Type 0
ImagesBy change old_image new_image = (left : List ℕ) → new_image left → (source : List ℕ) × old_image source × change source left

-- What a call does to the crash images since a time: it forgets none, and each that it adds is one of the file as the
-- call leaves it. The clock doesn't go back.
pub record PassesTime (old_clock new_clock : ℕ) (old_since new_since : ℕ → List ℕ → Type 0) (new_image : List ℕ → Type 0) : Type 0 where
  pub clock : old_clock ≤ new_clock
  pub remembers : (time : ℕ) (left : List ℕ) → time ≤ old_clock → old_since time left → new_since time left
  pub adds : (time : ℕ) (left : List ℕ) → time ≤ old_clock → new_since time left → old_since time left ⊎ new_image left

-- The crash condition of a run of calls: whenever power is lost in it, what is left meets the condition. So does each
-- crash image that the run adds to those since an earlier time.
pub record CrashCondition {D : Type 0} (clock : D → ℕ) (image_since : D → ℕ → List ℕ → Type 0) (old new : D) (Condition : List ℕ → Type 0) : Type 0 where
  pub clock_on : clock old ≤ clock new
  pub meets : (left : List ℕ) → image_since new (clock old) left → Condition left
  pub adds : (time : ℕ) (left : List ℕ) → time ≤ clock old → image_since new time left → image_since old time left ⊎ Condition left
