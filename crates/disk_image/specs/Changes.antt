-- What is done to a file, and what a crash may make of it before it is kept.
use Rattle.std.specs.Prelude.{◌≡◌, ◌⊎◌, ◌<◌, ◌≤◌, ◌+◌, ◌-◌, ◌++◌, ℕ, max, min, List, length, take, drop, replicate, slice_index}

-- the file with the bytes at this place; where they stand behind its end, `gap` stands between
abbrev pub written_over : ℕ → ℕ → List ℕ → List ℕ → List ℕ
written_over gap at bytes file = take at file ++ replicate (at - length file) gap ++ bytes ++ drop (at + length bytes) file

-- the file with the bytes at this place; what lies between its end and them reads as zeros
abbrev pub written : ℕ → List ℕ → List ℕ → List ℕ
written at bytes file = written_over 0 at bytes file

-- A write of n bytes to a file that had this end: a crash may leave any bytes in the range and past the end, and the
-- old length or one up to the new one.
pub record Torn (end at n : ℕ) (old new : List ℕ) : Type 0 where
  pub same : (i : ℕ) → i < length old → i < end → (i < at) ⊎ (at + n ≤ i) → slice_index new i ≡ slice_index old i
  pub no_shorter : length old ≤ length new
  pub no_longer : length new ≤ max (length old) (at + n)

-- A cut to n bytes: a crash may leave any length down to the new one, and any bytes past that.
pub record CutShort (n : ℕ) (old new : List ℕ) : Type 0 where
  pub same : (i : ℕ) → i < length new → i < n → slice_index new i ≡ slice_index old i
  pub no_shorter : min n (length old) ≤ length new
  pub no_longer : length new ≤ length old
