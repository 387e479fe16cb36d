use Rattle.std.proofs.Common.{◌≡◌, fold, take}
use Rattle.std.specs.Hash.FoldHasher as folding
use Rattle.table_reader.specs.Digests.{fed_with}
use Rattle.table_reader.specs.Keys.{key_of}
use Rattle.table_reader.proofs.digest.digest.Given as goal

abbrev pub invariant-loop-i : goal.invariant-loop-i
invariant-loop-i l = l.state ≡ fold fed_with folding.initial (take l.i (key_of l.places l.row))
