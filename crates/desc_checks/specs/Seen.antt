-- Texts that were seen before.
use Rattle.std.specs.Prelude.{◌≡◌, ℕ, List, Vec}
use Rattle.std.specs.Global.{Global}
use Rattle.std.specs.declared.cmp.Ordering.{Ordering}
use Rattle.std.specs.Ordering.{nat_cmp}
use Rattle.std.specs.Cmp.Lexicographic.{slice_cmp}
use Rattle.std.specs.BTreeSet.{contains}
use Rattle.desc_checks.specs.Firsts.{is_among}
use Rattle.desc_checks.specs.declared.seen.Seen.{Seen}

abbrev pub vec_cmp : Vec ℕ Global → Vec ℕ Global → Ordering
vec_cmp a b = slice_cmp nat_cmp a.items b.items

-- those seen are these
abbrev pub HasSeen : Seen → List (List ℕ) → Type 0
HasSeen s earlier = (q : Vec ℕ Global) → contains vec_cmp s.keys q ≡ is_among earlier q.items
