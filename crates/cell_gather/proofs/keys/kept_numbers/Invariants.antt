use Rattle.std.proofs.Common.{◌≡◌, ◌++◌}
use Rattle.cell_gather.specs.Keys.{kept_numbers}
use Rattle.cell_gather.proofs.keys.kept_numbers.Given as goal

abbrev pub invariant-loop-keep : goal.invariant-loop-keep
invariant-loop-keep l = l.part.items ++ kept_numbers l.keep-iterator.a.rest.now l.keep-iterator.b.rest.now ≡ kept_numbers l.keeps l.key
