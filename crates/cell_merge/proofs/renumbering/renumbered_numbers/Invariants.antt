use Rattle.std.proofs.Common.{◌≡◌, map, take}
use Rattle.cell_merge.specs.Renumbered.{new_number}
use Rattle.cell_merge.proofs.renumbering.renumbered_numbers.Given as goal

abbrev pub invariant-loop-id : goal.invariant-loop-id
invariant-loop-id l = l.new.items ≡ map (new_number l.numbers) (take l.id-index l.ids)
