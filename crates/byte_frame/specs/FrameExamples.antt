-- A frame to compute with.
use Rattle.std.specs.Prelude.{[], ◌∷◌, replicate}
use Rattle.byte_frame.specs.Frames.{Frame}

-- version 258, a digest of nines, a body of two bytes
abbrev pub small : Frame
small = record { version = 258; task = replicate 32 9; body = 5 ∷ 6 ∷ [] }
