-- What looks at a watch leave of it, told by its own members.
use base.Fml.{GName}
use Rattle.std.specs.Prelude.{◌≡◌, ◌≤◌, ℕ, Bool, Option}
use Rattle.outside.specs.Counts.{Rose}
use Rattle.outside.specs.Watches.{Held, HoldsIfTold, KeepsHeld}

-- no fewer stops were seen; whether one is there, what the files hold and which they are is as before
pub record Looked {X : Type 0} (seen : X → ℕ) (there : X → Option Bool) (held : X → Option Held) (place : X → Option GName) (old new : X) : Type 0 where
  pub no_fewer : seen old ≤ seen new
  pub same_there : there new ≡ there old
  pub kept : KeepsHeld (held old) (held new)
  pub same_place : place new ≡ place old

-- a stop was seen and, where that is told, it is there
pub record SawStop {X : Type 0} (seen : X → ℕ) (there : X → Option Bool) (old new : X) : Type 0 where
  pub rose : Rose (seen old) (seen new)
  pub is_there : HoldsIfTold (there old)
