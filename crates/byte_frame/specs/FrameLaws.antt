-- What holds of all frames.
use Rattle.std.specs.Prelude.{◌≡◌, ◌+◌, ℕ, List, Some, length}
use Rattle.byte_frame.specs.Exact.{IsBytes}
use Rattle.byte_frame.specs.Frames.{Frame, FitsFrame, IsFrameOf, frame_text}
use Rattle.byte_frame.specs.FrameReading.{frame_at}

-- a frame is taken again from its bytes, bytes that are taken are that frame's, and they are 82 more than its body's
pub record FramesAreExact : Type 0 where
  pub again : (f : Frame) → FitsFrame f → frame_at (frame_text f) ≡ Some f
  pub were_put : (bytes : List ℕ) (f : Frame) → IsBytes bytes → frame_at bytes ≡ Some f → IsFrameOf bytes f
  pub length : (f : Frame) → FitsFrame f → length (frame_text f) ≡ 82 + length f.body
