use Rattle.byte_frame.proofs.ExactFrames.{frame_again, frame_found, length-frame_text}
use Rattle.byte_frame.proofs.laws.frames_are_exact.Goals as goal

pub returns : goal.returns
returns c = record { again = frame_again; were_put = frame_found; length = length-frame_text }
