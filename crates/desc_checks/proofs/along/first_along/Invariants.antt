-- After the texts that were seen at first, nothing fails so far, so the first that does is that of what is left.
use Rattle.std.proofs.Common.{◌≡◌, ℕ, List, drop}
use Rattle.desc_checks.specs.Firsts.{first, along}
use Rattle.desc_checks.specs.Seen.{HasSeen}
use Rattle.desc_checks.proofs.along.first_along.Given as goal

abbrev pub invariant-loop-item : goal.invariant-loop-item
invariant-loop-item g l =
    let places = along (g.C.Along.text l.check) (g.C.Along.failing l.check) in
    (start : List (List ℕ)) → HasSeen l.fn.seen start → (earlier : List (List ℕ)) × HasSeen l.seen earlier × (first (places start l.items) ≡ first (places earlier (drop l.item-index l.items)))
