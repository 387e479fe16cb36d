-- Nothing fails so far, so the first failing place is that of what is left.
use Rattle.std.proofs.Common.{◌≡◌, drop}
use Rattle.std.specs.List.{flat_map}
use Rattle.desc_checks.specs.Firsts.{first}
use Rattle.desc_checks.proofs.check.first_in.Given as goal

abbrev pub invariant-loop-item : goal.invariant-loop-item
invariant-loop-item g l = first (flat_map (g.C.Check.failing l.check) l.items) ≡ first (flat_map (g.C.Check.failing l.check) (drop l.item-index l.items))
