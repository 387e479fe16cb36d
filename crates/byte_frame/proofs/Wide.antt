-- Numbers of 16 bytes, as two of eight, and signed numbers.
use Rattle.std.proofs.Common.{◌≡◌, ℕ, ℤ, ◌+◌, ◌*◌, ◌/◌, ◌%◌, ◌^◌, ◌<◌, List, [], ◌∷◌, ◌++◌, take, drop, refl, sym, ap, ◌∙◌, arith}
use Rattle.std.specs.Prelude.{FitsSigned}
use mir.Val.{bits}
use Rattle.std.specs.Int.{Width, w64, w128, cast_signed, cast_unsigned, from_be_bytes, to_be_bytes}
use Rattle.std.proofs.Math.Facts.{Fits-of_z, sfits_to_z}
use Rattle.std.proofs.Math.Nat as nat
use Rattle.std.proofs.lemmas.Int.{to_z-of_z, of_z-to_z}
use Rattle.std.proofs.lemmas.List.{take_at, drop_at, take-append-drop, length-take, length-drop, get_or-drop, get_or-take}
use Rattle.std.proofs.lemmas.Nat.{be_bytes_8, from_be_bytes-to_be_bytes_8}
use Rattle.byte_frame.specs.Reading.{signed_at}
use Rattle.byte_frame.specs.Spelling.{signed_text}
use Rattle.byte_frame.specs.Exact.{Exact}
use Rattle.byte_frame.proofs.Exact.{IsWide, IsBytes-take, IsBytes-drop, exact_number, exact_as, wide64}

-- a byte of the high half
high : (n p : ℕ) → n / (2 ^ 64 * p) % 256 ≡ n / 2 ^ 64 / p % 256
high n p = ap (λ m. m % 256) (sym (nat.div-div-eq-div-mul n (2 ^ 64) p))

-- a number's bytes are those of its high half and those of its low half
written : (n : ℕ) → to_be_bytes w128 n ≡ to_be_bytes w64 (n / 2 ^ 64) ++ to_be_bytes w64 (n % 2 ^ 64)
written n =
    let h7 = high n (256 ^ 7) in
    let h6 = high n (256 ^ 6) in
    let h5 = high n (256 ^ 5) in
    let h4 = high n (256 ^ 4) in
    let h3 = high n (256 ^ 3) in
    let h2 = high n (256 ^ 2) in
    let h1 = high n 256 in
    let h0 : n / 2 ^ 64 % 256 ≡ n / 2 ^ 64 % 256 = refl in
    let l7 : n / 256 ^ 7 % 256 ≡ n % 2 ^ 64 / 256 ^ 7 % 256 = omega arith in
    let l6 : n / 256 ^ 6 % 256 ≡ n % 2 ^ 64 / 256 ^ 6 % 256 = omega arith in
    let l5 : n / 256 ^ 5 % 256 ≡ n % 2 ^ 64 / 256 ^ 5 % 256 = omega arith in
    let l4 : n / 256 ^ 4 % 256 ≡ n % 2 ^ 64 / 256 ^ 4 % 256 = omega arith in
    let l3 : n / 256 ^ 3 % 256 ≡ n % 2 ^ 64 / 256 ^ 3 % 256 = omega arith in
    let l2 : n / 256 ^ 2 % 256 ≡ n % 2 ^ 64 / 256 ^ 2 % 256 = omega arith in
    let l1 : n / 256 % 256 ≡ n % 2 ^ 64 / 256 % 256 = omega arith in
    let l0 : n % 256 ≡ n % 2 ^ 64 % 256 = omega arith in
    λ i. h7 i ∷ h6 i ∷ h5 i ∷ h4 i ∷ h3 i ∷ h2 i ∷ h1 i ∷ h0 i ∷ l7 i ∷ l6 i ∷ l5 i ∷ l4 i ∷ l3 i ∷ l2 i ∷ l1 i ∷ l0 i ∷ []

-- and it is read from two halves
read : (bytes : List ℕ) → from_be_bytes w128 bytes ≡ from_be_bytes w64 (take 8 bytes) * 2 ^ 64 + from_be_bytes w64 (drop 8 bytes)
read bytes =
    let t = λ (i : ℕ) (lt : i < 8). get_or-take 8 bytes i 0 lt in
    let d = λ (i : ℕ). get_or-drop 8 bytes i 0 in
    omega (arith, t 0 (omega arith), t 1 (omega arith), t 2 (omega arith), t 3 (omega arith), t 4 (omega arith), t 5 (omega arith), t 6 (omega arith), t 7 (omega arith), d 0, d 1, d 2, d 3, d 4, d 5, d 6, d 7)

-- the halves of a number
halves : (u v : ℕ) → v < 2 ^ 64 → ((u * 2 ^ 64 + v) / 2 ^ 64 ≡ u) × ((u * 2 ^ 64 + v) % 2 ^ 64 ≡ v)
halves u v lt = (omega arith, omega arith)

joined : (n : ℕ) → n / 2 ^ 64 * 2 ^ 64 + n % 2 ^ 64 ≡ n
joined n = omega arith

small_halves : (n : ℕ) → n < 2 ^ 128 → (n / 2 ^ 64 < 2 ^ 64) × (n % 2 ^ 64 < 2 ^ 64)
small_halves n lt = (omega arith, omega arith)

pub wide128 : IsWide w128 (2 ^ 128)
wide128 = record {
  len = λ n. refl;
  back = λ bytes len fits.
      let u = from_be_bytes w64 (take 8 bytes) in
      let v = from_be_bytes w64 (drop 8 bytes) in
      let front = be_bytes_8 (take 8 bytes) u (omega (arith, length-take 8 bytes, len)) (IsBytes-take 8 bytes fits) refl in
      let rest = be_bytes_8 (drop 8 bytes) v (omega (arith, length-drop 8 bytes, len)) (IsBytes-drop 8 bytes fits) refl in
      let two = halves u v (wide64.below (drop 8 bytes) (IsBytes-drop 8 bytes fits)) in
      ap (to_be_bytes w128) (read bytes) ∙ written (u * 2 ^ 64 + v) ∙ ap (λ (k : ℕ). to_be_bytes w64 k ++ to_be_bytes w64 ((u * 2 ^ 64 + v) % 2 ^ 64)) two.0
      ∙ ap (λ (k : ℕ). to_be_bytes w64 u ++ to_be_bytes w64 k) two.1 ∙ ap (λ (t : List ℕ). t ++ to_be_bytes w64 v) front ∙ ap (λ (t : List ℕ). take 8 bytes ++ t) rest ∙ take-append-drop 8 bytes;
  again = λ n lt.
      let small = small_halves n lt in
      let a = to_be_bytes w64 (n / 2 ^ 64) in
      let b = to_be_bytes w64 (n % 2 ^ 64) in
      ap (from_be_bytes w128) (written n) ∙ read (a ++ b) ∙ ap (λ (t : List ℕ). from_be_bytes w64 t * 2 ^ 64 + from_be_bytes w64 (drop 8 (a ++ b))) (take_at a b 8 refl)
      ∙ ap (λ (t : List ℕ). from_be_bytes w64 a * 2 ^ 64 + from_be_bytes w64 t) (drop_at a b 8 refl)
      ∙ ap (λ (k : ℕ). k * 2 ^ 64 + from_be_bytes w64 b) (from_be_bytes-to_be_bytes_8 (n / 2 ^ 64) small.0)
      ∙ ap (λ (k : ℕ). n / 2 ^ 64 * 2 ^ 64 + k) (from_be_bytes-to_be_bytes_8 (n % 2 ^ 64) small.1) ∙ joined n;
  below = λ bytes fits.
      omega (arith, read bytes, wide64.below (take 8 bytes) (IsBytes-take 8 bytes fits), wide64.below (drop 8 bytes) (IsBytes-drop 8 bytes fits));
}

-- signed numbers, where the unsigned ones of the width are read exactly
pub exact_signed : (w : Width) → IsWide w (2 ^ bits w) → Exact (signed_text w) (λ (z : ℤ). FitsSigned w z) (signed_at w)
exact_signed w wide =
    exact_as (cast_signed w) (cast_unsigned w) _ _ (λ (z : ℤ). FitsSigned w z) _
    (λ x h. (of_z-to_z w x h, sfits_to_z {w = w} {n = x} (record { fits = h })))
    (λ z h. (to_z-of_z w z h, (Fits-of_z {w = w} {z = z} h).fits))
    (exact_number w (2 ^ bits w) wide)
