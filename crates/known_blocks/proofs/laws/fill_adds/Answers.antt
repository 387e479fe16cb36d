use Rattle.known_blocks.proofs.Filled.{adds-filled}
use Rattle.known_blocks.proofs.laws.fill_adds.Goals as goal

pub returns : goal.returns
returns c = λ shown line block. adds-filled shown line block
