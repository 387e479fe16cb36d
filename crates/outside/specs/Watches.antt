-- What a watch over files leaves as it was.
use Rattle.std.specs.Prelude.{◌≡◌, ◌≤◌, ℕ, List, Bool, Option, Some, None, ⊤, IsTrue, is_some, option_map}
use Rattle.outside.specs.Contents.{Paths}

-- what files hold, where it is told, and their counts
pub record Held : Type 0 where
  pub contents : Option Paths
  pub faults : ℕ
  pub write_faults : ℕ

-- the contents and the failed writes are as they were, and the faults are no fewer
pub record Keeps (old new : Held) : Type 0 where
  pub contents : new.contents ≡ old.contents
  pub faults : old.faults ≤ new.faults
  pub write_faults : new.write_faults ≡ old.write_faults

-- the same of a watch, which looks in files or in none
abbrev pub KeepsHeld : Option Held → Option Held → Type 0
KeepsHeld None new = new ≡ None
KeepsHeld (Some old) None = ⊥
KeepsHeld (Some old) (Some new) = Keeps old new

-- where it is told whether something is there, it is
abbrev pub HoldsIfTold : Option Bool → Type 0
HoldsIfTold None = ⊤
HoldsIfTold (Some there) = IsTrue there

-- ---- over files

-- what files with these contents and counts hold
abbrev pub held_of : Option Paths → ℕ → ℕ → Held
held_of contents faults write_faults = record { contents = contents; faults = faults; write_faults = write_faults }

-- whether something stands at the path, where the contents are told
abbrev pub there_at : Option Paths → List ℕ → Option Bool
there_at contents path = option_map (λ paths. is_some (paths path)) contents
