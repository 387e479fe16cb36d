use Rattle.std.proofs.Common.{[]}
use Rattle.desc_checks.proofs.along.first_from_start.Goals as goal

pub returns : goal.returns
returns g c = c.first_along.ensures [] c.new.ensures
