-- Names of tables and sessions.
use Rattle.std.specs.Prelude.{ℕ, Bool, ◌&&◌, ◌||◌, ◌==◌, nat_le, List, length, map, slice_index}
use Rattle.std.specs.Char.{is_ascii_alphabetic, is_ascii_alphanumeric, to_ascii_uppercase}
use Rattle.std.specs.List.{list_all}

abbrev pub underscore : ℕ
underscore = 95

abbrev pub begins_name : ℕ → Bool
begins_name byte = is_ascii_alphabetic byte || (byte == underscore)

abbrev pub continues_name : ℕ → Bool
continues_name byte = is_ascii_alphanumeric byte || (byte == underscore)

-- a name of at most so many bytes: a letter or an underscore, and then letters, digits and underscores
abbrev pub is_name : ℕ → List ℕ → Bool
is_name most bytes = nat_le (length bytes) most && begins_name (slice_index bytes 0) && list_all continues_name bytes

-- names are kept and compared in upper case
abbrev pub name_of : List ℕ → List ℕ
name_of bytes = map to_ascii_uppercase bytes
