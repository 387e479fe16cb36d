use Rattle.std.proofs.Common.{◌≡◌, ◌≤◌, ◌+◌, ◌-◌, ◌++◌, length, drop}
use Rattle.measure_laws.proofs.Unions.{union}
use Rattle.measure_laws.proofs.id_set.union_of.Given as goal

-- with the union of what is left it is the whole union
abbrev pub invariant-loop-i : goal.invariant-loop-i
invariant-loop-i l = record {
  first : l.i ≤ length l.a;
  second : l.j ≤ length l.b;
  whole : l.union.items ++ union (drop l.i l.a) (drop l.j l.b) ≡ union l.a l.b;
}

abbrev pub decreases-loop-i : goal.decreases-loop-i
decreases-loop-i l = (length l.a - l.i) + (length l.b - l.j)
