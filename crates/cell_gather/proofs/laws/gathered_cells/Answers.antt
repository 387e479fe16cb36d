use Rattle.cell_gather.proofs.GatherFacts.{law}
use Rattle.cell_gather.proofs.laws.gathered_cells.Goals as goal

pub returns : goal.returns
returns g c = λ ms key part lists. law ms key part lists
