-- What a watch leaves as it was, over no look and over one look after another.
use Rattle.std.proofs.Common.{Option, Some, None, refl, ◌∙◌, arith}
use Rattle.outside.specs.Watches.{Held, KeepsHeld}

pub KeepsHeld-none : (held : Option Held) → KeepsHeld held held
KeepsHeld-none None = refl
KeepsHeld-none (Some held) = record { contents = refl; faults = omega arith; write_faults = refl }

pub KeepsHeld-then : (old mid new : Option Held) → KeepsHeld old mid → KeepsHeld mid new → KeepsHeld old new
KeepsHeld-then None None new a b = b
KeepsHeld-then None (Some mid) new a b = cc
KeepsHeld-then (Some old) None new a b = absurd a
KeepsHeld-then (Some old) (Some mid) None a b = absurd b
KeepsHeld-then (Some old) (Some mid) (Some new) a b = record { contents = b.contents ∙ a.contents; faults = omega (arith, a.faults, b.faults); write_faults = b.write_faults ∙ a.write_faults }
