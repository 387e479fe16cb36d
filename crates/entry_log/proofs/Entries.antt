-- One entry, in front of other bytes.
use Rattle.std.proofs.Common.{◌≡◌, ◌+◌, ◌<◌, ◌≤◌, ◌^◌, ◌∙◌, ℕ, List, ◌∷◌, ◌++◌, length, Some, true, refl, sym, ap, arith, length-append}
use Rattle.std.specs.Int.{w64, to_be_bytes}
use Rattle.byte_frame.specs.Frames.{Frame, FitsFrame, frame_text}
use Rattle.byte_frame.specs.FrameReading.{frame_at}
use Rattle.byte_frame.specs.Reading.{sized_at}
use Rattle.byte_frame.specs.Spelling.{sized_text}
use Rattle.byte_frame.proofs.Exact.{exact_sized, wide64}
use Rattle.byte_frame.proofs.ExactFrames.{frame_again, length-frame_text}
use Rattle.entry_log.specs.Logs.{FitsBody, entry_frame, entry_text}

pub frame_fits : (body : List ℕ) → FitsBody body → FitsFrame (entry_frame body)
frame_fits body fits = record { version = omega arith; task = refl; body = omega (arith, fits) }

pub length-frame : (body : List ℕ) → FitsBody body → length (frame_text (entry_frame body)) ≡ 82 + length body
length-frame body fits = length-frame_text (entry_frame body) (frame_fits body fits)

-- bytes behind their length are read again
pub sized_again : (bytes rest : List ℕ) → length bytes < 2 ^ 64 → sized_at w64 (λ n. true) (sized_text w64 bytes ++ rest) ≡ Some (bytes, rest)
sized_again bytes rest fits = (exact_sized w64 (2 ^ 64) (λ n. true) wide64).again bytes rest (fits, refl)

frame_short : (body : List ℕ) → FitsBody body → length (frame_text (entry_frame body)) < 2 ^ 64
frame_short body fits = omega (arith, length-frame body fits, fits)

-- what stands behind an open gate
pub entry_again : (body rest : List ℕ) → FitsBody body → sized_at w64 (λ n. true) (sized_text w64 (frame_text (entry_frame body)) ++ rest) ≡ Some (frame_text (entry_frame body), rest)
entry_again body rest fits = sized_again (frame_text (entry_frame body)) rest (frame_short body fits)

behind_gate : (a b : ℕ) (xs ys : List ℕ) → a ∷ xs ≡ b ∷ ys → xs ≡ ys
behind_gate a b xs ys e = cc

-- what was read, and what is left
abbrev Read : Type 0
Read = List ℕ × List ℕ

reading_same : (x y : Read) → Some x ≡ Some y → x ≡ y
reading_same x y e = cc

frame_same : (f g : Frame) → Some f ≡ Some g → f ≡ g
frame_same f g e = cc

-- equal texts of entries begin with the same entry
pub entry_is_one : (a b rest more : List ℕ) → FitsBody a → FitsBody b → entry_text a ++ rest ≡ entry_text b ++ more → (a ≡ b) × (rest ≡ more)
entry_is_one a b rest more fits_a fits_b same =
    let behind : sized_text w64 (frame_text (entry_frame a)) ++ rest ≡ sized_text w64 (frame_text (entry_frame b)) ++ more = behind_gate 1 1 _ _ same in
    let both = reading_same (frame_text (entry_frame a), rest) (frame_text (entry_frame b), more) (sym (entry_again a rest fits_a) ∙ ap (sized_at w64 (λ n. true)) behind ∙ entry_again b more fits_b) in
    let frames = frame_same (entry_frame a) (entry_frame b) (sym (frame_again (entry_frame a) (frame_fits a fits_a)) ∙ ap (λ (r : Read). frame_at r.0) both ∙ frame_again (entry_frame b) (frame_fits b fits_b)) in
    (ap (λ (f : Frame). f.body) frames, ap (λ (r : Read). r.1) both)

-- an entry is more than its gate
pub entry_is_long : (body : List ℕ) → 2 ≤ length (entry_text body)
entry_is_long body = omega (arith, length-append (to_be_bytes w64 (length (frame_text (entry_frame body)))) (frame_text (entry_frame body)))

-- a frame in memory is short enough
pub frame_in_memory : (body frame : List ℕ) → frame ≡ frame_text (entry_frame body) → length body < 2 ^ 64 → length frame < 2 ^ 64 → FitsBody body
frame_in_memory body frame is short whole =
    let fits : FitsFrame (entry_frame body) = record { version = omega arith; task = refl; body = short } in
    omega (arith, ap length is, length-frame_text (entry_frame body) fits, whole)
