use Rattle.std.proofs.Common.{◌≡◌, ◌++◌, take}
use Rattle.flat_join.specs.Joins.{joined_by}
use Rattle.flat_join.specs.Partners.{found_in}
use Rattle.flat_join.proofs.flat.add_joined_rows.Given as goal

abbrev pub invariant-loop-fact : goal.invariant-loop-fact
invariant-loop-fact l = l.flat ≡ l.fn.flat ++ joined_by (found_in l.plan.joins l.snaps) l.plan l.columns l.range (take l.fact-index l.facts)
