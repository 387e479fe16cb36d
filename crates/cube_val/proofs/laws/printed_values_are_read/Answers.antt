use Rattle.cube_val.proofs.Printed.{printed_is_read}
use Rattle.cube_val.proofs.laws.printed_values_are_read.Goals as goal

pub returns : goal.returns
returns c = printed_is_read
