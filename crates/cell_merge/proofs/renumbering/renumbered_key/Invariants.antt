use Rattle.std.proofs.Common.{◌≡◌, ◌<◌, ◌++◌, length}
use Rattle.std.specs.List.{AllZip}
use Rattle.cell_merge.specs.Renumbered.{remap_at, renumbered_key}
use Rattle.cell_merge.proofs.renumbering.renumbered_key.Given as goal

abbrev pub invariant-loop-d : goal.invariant-loop-d
invariant-loop-d l = record {
  key : l.new.items ++ renumbered_key l.remaps l.d-iterator.a.rest.now l.d-iterator.b.rest.now ≡ renumbered_key l.remaps l.dims l.key;
  there : AllZip (λ d id. id < length (remap_at l.remaps d)) l.d-iterator.a.rest.now l.d-iterator.b.rest.now;
}
