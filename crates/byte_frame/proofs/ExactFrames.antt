-- Frames, exactly.
use Rattle.std.proofs.Common.{◌≡◌, ℕ, ◌+◌, ◌-◌, ◌^◌, Bool, true, false, cond, List, ◌++◌, length, take, drop, Option, Some, None, refl, sym, ap, ◌∙◌, arith, length-append}
use Rattle.std.specs.Prelude.{Result, Ok, Err, IfOk, OnErr, option_map}
use Rattle.std.specs.Result.{result_ok}
use Rattle.std.specs.Int.{w16, w64, to_be_bytes}
use Rattle.std.specs.Str.{bytes_eq}
use Rattle.std.proofs.lemmas.List.{take_at, drop_at, take-append-drop}
use Rattle.std.proofs.lemmas.Slice.Eq.{bytes_eq-Decides}
use Rattle.sha2.specs.Sha256.{sha256}
use Rattle.sha2.proofs.Facts256.{length-sha256}
use Rattle.byte_frame.specs.Exact.{Exact, IsBytes}
use Rattle.byte_frame.specs.Reading.{all_of}
use Rattle.byte_frame.proofs.Exact.{IsBytes-take, exact_as, exact_then, exact_if, exact_number, exact_bytes, exact_sized, wide16, wide64, all_found, all_again}
use Rattle.byte_frame.specs.Frames.{Frame, FitsFrame, IsFrameOf, magic, before_digest, frame_text}
use Rattle.byte_frame.specs.FrameReading.{framed, before_digest_at, frame_at}

bytes_same : (xs ys : List ℕ) → bytes_eq xs ys ≡ true → xs ≡ ys
bytes_same xs ys h = (bytes_eq-Decides xs ys).0 h

bytes_equal : (xs ys : List ℕ) → xs ≡ ys → bytes_eq xs ys ≡ true
bytes_equal xs ys h = (bytes_eq-Decides xs ys).1 h

-- a test before reading on
guard_on : {A : Type 0} (b : Bool) (r : Option A) (y : A) → cond b r None ≡ Some y → (b ≡ true) × (r ≡ Some y)
guard_on true r y e = (refl, e)
guard_on false r y e = absurd cc

pub exact_before_digest : Exact before_digest FitsFrame before_digest_at
unfolding before_digest_at
exact_before_digest =
    exact_as framed (λ (f : Frame). (magic, (f.version, (f.task, f.body)))) _ _ FitsFrame _
    (λ x h. (ap (λ (m : List ℕ). (m, x.1)) (sym (bytes_same x.0 magic h.0.1)), record { version = h.1.0; task = h.1.1.0; body = h.1.1.1.0 }))
    (λ f h. (refl, ((refl, refl), (h.version, (h.task, (h.body, refl))))))
    (exact_then _ _ _ (λ m (p : ℕ × (List ℕ × List ℕ)). to_be_bytes w16 p.0 ++ (p.1.0 ++ (to_be_bytes w64 (length p.1.1) ++ p.1.1))) _ _
    (exact_if (λ m. bytes_eq m magic) _ _ _ (exact_bytes 8))
    (λ m g. exact_then _ _ _ (λ v (p : List ℕ × List ℕ). p.0 ++ (to_be_bytes w64 (length p.1) ++ p.1)) _ _ (exact_number w16 (2 ^ 16) wide16)
    (λ v g. exact_then _ _ _ (λ d (b : List ℕ). to_be_bytes w64 (length b) ++ b) _ _ (exact_bytes 32)
    (λ d g. exact_sized w64 (2 ^ 64) (λ n. true) wide64))))

pub frame_found : (bytes : List ℕ) (f : Frame) → IsBytes bytes → frame_at bytes ≡ Some f → IsFrameOf bytes f
unfolding frame_at
frame_found bytes f fits e =
    let n : ℕ = length bytes - 32 in
    let g = guard_on (bytes_eq (drop n bytes) (sha256 (take n bytes))) (all_of before_digest_at (take n bytes)) f e in
    let digest = bytes_same (drop n bytes) (sha256 (take n bytes)) g.0 in
    let t = all_found before_digest FitsFrame before_digest_at exact_before_digest (take n bytes) f (IsBytes-take n bytes fits) g.1 in
    record { fits = t.0; text = sym (take-append-drop n bytes) ∙ ap (λ (d : List ℕ). take n bytes ++ d) digest ∙ ap (λ (b : List ℕ). b ++ sha256 b) t.1 }

pub frame_again : (f : Frame) → FitsFrame f → frame_at (frame_text f) ≡ Some f
unfolding frame_at
frame_again f h =
    let n : ℕ = length (frame_text f) - 32 in
    let len : n ≡ length (before_digest f) = omega (arith, length-append (before_digest f) (sha256 (before_digest f)), length-sha256 (before_digest f)) in
    let front : take n (frame_text f) ≡ before_digest f = take_at (before_digest f) (sha256 (before_digest f)) n (sym len) in
    let digest : drop n (frame_text f) ≡ sha256 (before_digest f) = drop_at (before_digest f) (sha256 (before_digest f)) n (sym len) in
    rw (front, digest, bytes_equal (sha256 (before_digest f)) (sha256 (before_digest f)) refl) (all_again before_digest FitsFrame before_digest_at exact_before_digest f h)

-- the lengths of the parts
parts_length : (a b c d e x : List ℕ) → length ((a ++ (b ++ (c ++ (d ++ e)))) ++ x) ≡ length a + length b + length c + length d + length e + length x
parts_length a b c d e x = omega (arith, length-append (a ++ (b ++ (c ++ (d ++ e)))) x, length-append a (b ++ (c ++ (d ++ e))), length-append b (c ++ (d ++ e)), length-append c (d ++ e), length-append d e)

pub length-frame_text : (f : Frame) → FitsFrame f → length (frame_text f) ≡ 82 + length f.body
length-frame_text f h =
    let version : length (to_be_bytes w16 f.version) ≡ 2 = refl in
    let size : length (to_be_bytes w64 (length f.body)) ≡ 8 = refl in
    omega (arith, parts_length magic (to_be_bytes w16 f.version) f.task (to_be_bytes w64 (length f.body)) f.body (sha256 (before_digest f)), h.task, version, size, length-sha256 (before_digest f))

-- bytes of which nothing is read are no frame
pub none_is_no_frame : (bytes : List ℕ) → frame_at bytes ≡ None → (f : Frame) → ¬ IsFrameOf bytes f
none_is_no_frame bytes e f h =
    let again : frame_at bytes ≡ Some f = ap frame_at h.text ∙ frame_again f h.fits in
    cc

-- an answer that shows what is read of the bytes
pub is_taken : {T E : Type 0} (show : T → Frame) (bytes : List ℕ) (r : Result T E) → IsBytes bytes → option_map show (result_ok r) ≡ frame_at bytes → IfOk r (λ t. IsFrameOf bytes (show t))
is_taken show bytes (Ok t) fits e = frame_found bytes (show t) fits (sym e)
is_taken show bytes (Err x) fits e = tt

pub is_torn : {T E : Type 0} (show : T → Frame) (bytes : List ℕ) (r : Result T E) → option_map show (result_ok r) ≡ frame_at bytes → OnErr r ((f : Frame) → ¬ IsFrameOf bytes f)
is_torn show bytes (Ok t) e = tt
is_torn show bytes (Err x) e = none_is_no_frame bytes (sym e)
