-- Frames, and the bytes that they are written as.
use Rattle.std.specs.Prelude.{◌≡◌, ◌<◌, ◌^◌, ℕ, List, ◌++◌, length, codes}
use Rattle.std.specs.Int.{w16, w64, to_be_bytes}
use Rattle.sha2.specs.Sha256.{sha256}
use Rattle.byte_frame.specs.declared.frames.FrameHead.{FrameHead}

-- a version, the digest of a task, and a body
pub record Frame : Type 0 where
  pub version : ℕ
  pub task : List ℕ
  pub body : List ℕ

abbrev pub frame_of : FrameHead → List ℕ → Frame
frame_of head body = record { version = head.version; task = head.task; body = body }

-- each field has its place: a number of 16 bits, 32 bytes, a length of 64 bits
pub record FitsFrame (f : Frame) : Type 0 where
  pub version : f.version < 2 ^ 16
  pub task : length f.task ≡ 32
  pub body : length f.body < 2 ^ 64

abbrev pub magic : List ℕ
magic = codes "CUBEFRM1"

-- all of a frame before its digest
abbrev pub before_digest : Frame → List ℕ
before_digest f = magic ++ (to_be_bytes w16 f.version ++ (f.task ++ (to_be_bytes w64 (length f.body) ++ f.body)))

-- the bytes of a frame
abbrev pub frame_text : Frame → List ℕ
frame_text f = before_digest f ++ sha256 (before_digest f)

-- the bytes are this frame
pub record IsFrameOf (bytes : List ℕ) (f : Frame) : Type 0 where
  pub fits : FitsFrame f
  pub text : bytes ≡ frame_text f
