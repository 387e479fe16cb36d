use Rattle.std.proofs.Common.{◌≡◌, take}
use Rattle.std.specs.Prelude.{map, slice_index_or}
use Rattle.cube_fields.proofs.tables.sizes_in.Given as goal

abbrev pub invariant-loop-d : goal.invariant-loop-d
invariant-loop-d l = l.found.items ≡ map (λ d. slice_index_or l.sizes d 0) (take l.d-index l.d-items)
