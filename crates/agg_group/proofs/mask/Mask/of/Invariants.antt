use Rattle.std.proofs.Common.{◌≡◌, ℕ, take}
use Rattle.agg_group.specs.Sets.{is_among}
use Rattle.agg_group.specs.Mask.{has}
use Rattle.agg_group.proofs.mask.Mask.of.Given as goal

abbrev pub invariant-loop-d : goal.invariant-loop-d
invariant-loop-d l = (e : ℕ) → has l.mask e ≡ is_among e (take l.d-index l.dims)
