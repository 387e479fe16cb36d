-- What holds of all fields.
use Rattle.std.specs.Prelude.{◌≡◌, ◌<◌, ◌^◌, ℕ, ℤ, List, ◌∷◌, [], length, FitsSigned}
use Rattle.std.specs.Int.{w16, w32, w64, w128, to_be_bytes}
use Rattle.byte_frame.specs.Exact.{Exact}
use Rattle.byte_frame.specs.Reading.{byte_at, bytes_at, number_at, signed_at}
use Rattle.byte_frame.specs.Spelling.{signed_text}

-- each field is read exactly: what is put is taken again, whatever follows, and what is taken was so put
pub record FieldsAreExact : Type 0 where
  pub u8 : Exact (λ (n : ℕ). n ∷ []) (λ (n : ℕ). n < 256) byte_at
  pub u16 : Exact (to_be_bytes w16) (λ (n : ℕ). n < 2 ^ 16) (number_at w16)
  pub u32 : Exact (to_be_bytes w32) (λ (n : ℕ). n < 2 ^ 32) (number_at w32)
  pub u64 : Exact (to_be_bytes w64) (λ (n : ℕ). n < 2 ^ 64) (number_at w64)
  pub i64 : Exact (signed_text w64) (λ (z : ℤ). FitsSigned w64 z) (signed_at w64)
  pub i128 : Exact (signed_text w128) (λ (z : ℤ). FitsSigned w128 z) (signed_at w128)
  pub bytes : (n : ℕ) → Exact (λ (t : List ℕ). t) (λ (t : List ℕ). length t ≡ n) (bytes_at n)
