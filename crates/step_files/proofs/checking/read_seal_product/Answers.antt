use Rattle.step_files.proofs.SealFacts.{seal_short}
use Rattle.step_files.proofs.checking.read_seal_product.Goals as goal

pub is_seal-requires-clause-short : goal.is_seal-requires-clause-short
is_seal-requires-clause-short c = seal_short c.args.r.now c.in-Ok.seal c.read_seal.new.r c.in-Ok.ensures
