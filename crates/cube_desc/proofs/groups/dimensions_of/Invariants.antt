use Rattle.std.proofs.Common.{◌≡◌, take}
use Rattle.cube_desc.specs.Groups.{dimensions_of}
use Rattle.cube_desc.proofs.groups.dimensions_of.Given as goal

abbrev pub invariant-loop-text : goal.invariant-loop-text
invariant-loop-text l = l.numbers.items ≡ dimensions_of l.rowkey (take l.text-index l.texts)
