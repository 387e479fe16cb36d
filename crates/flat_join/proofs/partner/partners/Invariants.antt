use Rattle.std.proofs.Common.{◌≡◌, take}
use Rattle.flat_join.specs.Partners.{found_in}
use Rattle.flat_join.proofs.partner.partners.Given as goal

abbrev pub invariant-loop-i : goal.invariant-loop-i
invariant-loop-i l = l.found.items ≡ found_in (take l.i l.joins) (take l.i l.snaps) l.fact
