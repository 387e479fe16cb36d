-- A sign, as the reader of numbers splits it off.
use Rattle.std.specs.Prelude.{◌≡◌, ◌==◌, ◌||◌, ℕ, ℤ, pos, neg_ℤ, Bool, List, drop, slice_index, if◌then◌else◌}
use Rattle.std.specs.List.{position_or_len}
use Rattle.std.specs.Str.Parse.{digits_value}
use Rattle.cube_val.specs.Numbers.{IsFraction, four_places, with_point}

-- the number of this size, negative or not
abbrev pub signed_by : Bool → ℕ → ℤ
signed_by negative size = if negative then neg_ℤ (pos size) else pos size

-- a minus stands first or doesn't, and the rest is what stands after a sign, or all of the bytes
pub record IsSplit (bytes : List ℕ) (negative : Bool) (rest : List ℕ) : Type 0 where
  pub minus_first : negative ≡ (slice_index bytes 0 == 45)
  pub after : rest ≡ drop (if slice_index bytes 0 == 45 || slice_index bytes 0 == 43 then 1 else 0) bytes

abbrev pub is_point : ℕ → Bool
is_point byte = byte == 46

-- the bytes from the first point on
abbrev pub from_point : List ℕ → List ℕ
from_point bytes = drop (position_or_len is_point bytes) bytes

-- a point with digits after it, or nothing, whose first four places have this value
pub record IsTail (tail : List ℕ) (places : ℕ) : Type 0 where
  pub fraction : List ℕ
  pub spelling : tail ≡ with_point fraction
  pub is_fraction : IsFraction fraction
  pub value : places ≡ digits_value 10 (four_places fraction)
