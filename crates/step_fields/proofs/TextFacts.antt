-- Texts of a length that was read.
use Rattle.std.proofs.Common.{◌≡◌, ◌≤◌, ℕ, Bool, true, false, List, length, refl}
use Rattle.std.specs.Str.{is_utf8}
use Rattle.std.proofs.lemmas.Str.{IsUtf8-from_is_utf8, is_utf8-from_IsUtf8}
use Rattle.cube_val.specs.Texts.{IsText}

pub not_text : (bytes : List ℕ) → length bytes ≤ 255 → ¬ (IsText bytes) → is_utf8 bytes ≡ false
not_text bytes short h = by (is_utf8 bytes) refl where
  by : (b : Bool) → is_utf8 bytes ≡ b → is_utf8 bytes ≡ false
  by false e = e
  by true e = absurd (h (record { short = short; utf8 = IsUtf8-from_is_utf8 bytes e }))

pub text_is : (bytes : List ℕ) → IsText bytes → is_utf8 bytes ≡ true
text_is bytes h = is_utf8-from_IsUtf8 bytes h.utf8
