-- Looks one after another.
use base.Fml.{GName}
use Rattle.std.proofs.Common.{◌≡◌, ◌∙◌, ℕ, Bool, Option, Some, None, refl, subst, arith}
use Rattle.outside.specs.Watches.{Held, HoldsIfTold, KeepsHeld}
use Rattle.step_compute.specs.Watched.{Looked, SawStop}

keeps_same : (a : Option Held) → KeepsHeld a a
keeps_same None = refl
keeps_same (Some a) = record { contents = refl; faults = omega arith; write_faults = refl }

keeps_more : (a b c : Option Held) → KeepsHeld a b → KeepsHeld b c → KeepsHeld a c
keeps_more None None c h k = k
keeps_more None (Some b) c h k = absurd cc
keeps_more (Some a) None c h k = absurd h
keeps_more (Some a) (Some b) None h k = absurd k
keeps_more (Some a) (Some b) (Some c) h k = record { contents = k.contents ∙ h.contents; faults = omega (arith, h.faults, k.faults); write_faults = k.write_faults ∙ h.write_faults }

pub looked_none : {X : Type 0} (seen : X → ℕ) (there : X → Option Bool) (held : X → Option Held) (place : X → Option GName) (a : X) → Looked seen there held place a a
looked_none seen there held place a = record { no_fewer = omega arith; same_there = refl; kept = keeps_same (held a); same_place = refl }

pub looked_more : {X : Type 0} (seen : X → ℕ) (there : X → Option Bool) (held : X → Option Held) (place : X → Option GName) (a b c : X)
    → Looked seen there held place a b → Looked seen there held place b c → Looked seen there held place a c
looked_more seen there held place a b c h k = record {
  no_fewer = omega (arith, h.no_fewer, k.no_fewer);
  same_there = k.same_there ∙ h.same_there;
  kept = keeps_more (held a) (held b) (held c) h.kept k.kept;
  same_place = k.same_place ∙ h.same_place;
}

pub stopped_later : {X : Type 0} (seen : X → ℕ) (there : X → Option Bool) (held : X → Option Held) (place : X → Option GName) (a b c : X)
    → Looked seen there held place a b → SawStop seen there b c → SawStop seen there a c
stopped_later seen there held place a b c h k = record {
  rose = omega (arith, h.no_fewer, k.rose);
  is_there = by h.same_there k.is_there;
} where
  by : there b ≡ there a → HoldsIfTold (there b) → HoldsIfTold (there a)
  by e told = subst (λ (o : Option Bool). HoldsIfTold o) e told

pub stopped_before : {X : Type 0} (seen : X → ℕ) (there : X → Option Bool) (held : X → Option Held) (place : X → Option GName) (a b c : X)
    → SawStop seen there a b → Looked seen there held place b c → SawStop seen there a c
stopped_before seen there held place a b c h k = record { rose = omega (arith, h.rose, k.no_fewer); is_there = h.is_there }
