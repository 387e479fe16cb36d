use Rattle.cube_desc.proofs.SoundFacts.{sound}
use Rattle.cube_desc.proofs.laws.descriptors_are_sound.Goals as goal

pub returns : goal.returns
returns c = sound
