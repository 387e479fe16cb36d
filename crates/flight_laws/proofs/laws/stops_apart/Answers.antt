use Rattle.flight_laws.proofs.Stopped.{stops_world}
use Rattle.flight_laws.proofs.laws.stops_apart.Goals as goal

pub returns : goal.returns
returns g c = λ cube workers initial turns. stops_world cube workers initial turns
