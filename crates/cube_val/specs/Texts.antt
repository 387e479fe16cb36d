-- The texts of values.
use Rattle.std.specs.Prelude.{◌≤◌, ℕ, List, length, codes}
use Rattle.std.specs.Str.{IsUtf8}

-- the text of a null: a backslash and an N
abbrev pub null_text : List ℕ
null_text = codes "\\N"

-- at most 255 bytes of UTF-8
pub record IsText (bytes : List ℕ) : Type 0 where
  pub short : length bytes ≤ 255
  pub utf8 : IsUtf8 bytes
