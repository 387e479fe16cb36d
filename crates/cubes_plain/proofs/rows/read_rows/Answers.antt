use Rattle.std.proofs.Common.{refl, arith}
use Rattle.cubes_plain.proofs.rows.read_rows.Goals as goal

pub read_rows-requires : goal.read_rows-requires
read_rows-requires c = rw c.in-Ok.ensures record { no_null = refl; key = λ k d h. absurd (omega arith) }
