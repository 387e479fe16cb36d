-- The reader of frames: the frame that all of the bytes are, or nothing.
use Rattle.std.specs.Prelude.{◌-◌, ℕ, List, Option, None, true, length, take, drop, if◌then◌else◌}
use Rattle.std.specs.Int.{w16, w64}
use Rattle.std.specs.Str.{bytes_eq}
use Rattle.sha2.specs.Sha256.{sha256}
use Rattle.byte_frame.specs.Reading.{all_of, as_at, bytes_at, if_at, number_at, sized_at, then_at}
use Rattle.byte_frame.specs.Frames.{Frame, magic}

abbrev pub framed : List ℕ × (ℕ × (List ℕ × List ℕ)) → Frame
framed p = record { version = p.1.0; task = p.1.1.0; body = p.1.1.1 }

-- the magic, a version, a digest, and a body behind its length
unfoldable pub before_digest_at : List ℕ → Option (Frame × List ℕ)
before_digest_at = as_at framed (then_at (if_at (λ m. bytes_eq m magic) (bytes_at 8)) (λ _. then_at (number_at w16) (λ _. then_at (bytes_at 32) (λ _. sized_at w64 (λ _. true)))))

-- the same in front of its digest, the last 32 bytes
unfoldable pub frame_at : List ℕ → Option Frame
frame_at bytes = if bytes_eq (drop (length bytes - 32) bytes) (sha256 (take (length bytes - 32) bytes)) then all_of before_digest_at (take (length bytes - 32) bytes) else None
