use Rattle.std.proofs.Common.{[], ◌∷◌, refl}
use Rattle.worker_pool.proofs.examples.worked_examples.Goals as goal

pub returns-clause-started : goal.returns-clause-started
returns-clause-started c = record {
  hand = 2;
  taken = record { front = 1 ∷ []; back = 3 ∷ []; before = refl; after = refl };
  started = record { front = []; back = []; before = refl; after = refl };
}
