use Rattle.flight_laws.proofs.Lines.{lines_world}
use Rattle.flight_laws.proofs.laws.lines_apart.Goals as goal

pub returns : goal.returns
returns g c = λ cube workers initial turns legal. lines_world cube workers initial turns legal
