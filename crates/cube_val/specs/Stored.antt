-- The bytes of a text where they are kept.
use Rattle.std.specs.Prelude.{ℕ, List, take}
use Rattle.cube_val.specs.declared.text.Stored.{Stored}
use Rattle.cube_val.specs.declared.text.Stored.TheVariants.{Inline, Heap}

-- the bytes that are kept
abbrev pub stored_bytes : Stored → List ℕ
stored_bytes (Inline len room) = take len room
stored_bytes (Heap bytes) = bytes.value.items

-- how many bytes are kept in place
abbrev pub inline_len : Stored → ℕ
inline_len (Inline len room) = len
inline_len (Heap bytes) = 0
