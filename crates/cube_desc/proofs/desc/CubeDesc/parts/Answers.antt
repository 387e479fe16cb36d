use Rattle.std.proofs.Common.{subst}
use Rattle.cube_desc.specs.Meaning.{Descriptor}
use Rattle.cube_desc.specs.Sound.{IsSound}
use Rattle.cube_desc.proofs.SoundFacts.{sound}
use Rattle.cube_desc.proofs.desc.CubeDesc.parts.Goals as goal

pub returns-clause-sound : goal.returns-clause-sound
returns-clause-sound c = subst (λ (d : Descriptor). IsSound d.cube) c.self.view_is (sound c.self.inside.source.items c.self.inside.parts c.self.invariant)
