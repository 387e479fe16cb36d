-- How a log is spelled: whole entries, a gate, and any bytes behind it.
use Rattle.std.specs.Prelude.{◌≡◌, ◌≢◌, ◌⊎◌, ◌+◌, ◌<◌, ◌^◌, ◌++◌, [], ◌∷◌, ℕ, List, Option, All, Vec, Bool, true, false, not, ◌==◌, length, map, replicate}
use Rattle.std.specs.declared.alloc.Global.{Global}
use Rattle.std.specs.Int.{w64}
use Rattle.std.specs.List.{flat_map}
use Rattle.byte_frame.specs.Frames.{Frame, frame_text}
use Rattle.byte_frame.specs.Reading.{sized_at, tagged_at}
use Rattle.byte_frame.specs.Spelling.{sized_text}

-- an entry's body in its frame: version 2, and no task
abbrev pub entry_frame : List ℕ → Frame
entry_frame body = record { version = 2; task = replicate 32 0; body = body }

-- an open gate, a length of 64 bits, and the frame
abbrev pub entry_text : List ℕ → List ℕ
entry_text body = 1 ∷ sized_text w64 (frame_text (entry_frame body))

-- the entries, one after another
abbrev pub entries_text : List (List ℕ) → List ℕ
entries_text bodies = flat_map entry_text bodies

-- the length of its frame has 64 bits
abbrev pub FitsBody : List ℕ → Type 0
FitsBody body = 82 + length body < 2 ^ 64

-- Entries with these bodies, a byte at the gate that isn't 1, and any bytes. One byte alone, whatever it is, is the log
-- without entries.
pub record IsLog (bytes : List ℕ) (bodies : List (List ℕ)) (gate : ℕ) : Type 0 where
  pub byte : ℕ
  pub rest : List ℕ
  pub text : bytes ≡ entries_text bodies ++ byte ∷ rest
  pub place : gate ≡ length (entries_text bodies)
  pub fits : All FitsBody bodies
  pub closed : (byte ≢ 1) ⊎ ((bodies ≡ []) × (rest ≡ []))

-- the bytes are a log of these bodies
abbrev pub HasEntries : List ℕ → List (List ℕ) → Type 0
HasEntries bytes bodies = (gate : ℕ) × IsLog bytes bodies gate

-- the bytes are no log
abbrev pub IsNoLog : List ℕ → Type 0
IsNoLog bytes = (bodies : List (List ℕ)) → ¬ HasEntries bytes bodies

-- ---- what stands at a gate

-- the bytes behind an open gate and their length, and what follows
abbrev pub gated_at : List ℕ → Option (List ℕ × List ℕ)
gated_at = tagged_at 1 (sized_at w64 (λ _. true))

-- the bytes begin with no entry
abbrev pub IsNoEntry : List ℕ → Type 0
IsNoEntry bytes = (body rest : List ℕ) → FitsBody body → ¬ (bytes ≡ entry_text body ++ rest)

-- the bytes begin with a byte that isn't 1
abbrev pub gate_is_shut : List ℕ → Bool
gate_is_shut [] = false
gate_is_shut (byte ∷ rest) = not (byte == 1)

-- the bodies as they are held
abbrev pub bodies_of : List (Vec ℕ Global) → List (List ℕ)
bodies_of bodies = map (λ body. body.items) bodies
