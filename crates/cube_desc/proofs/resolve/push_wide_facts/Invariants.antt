use Rattle.std.proofs.Common.{◌≡◌, ◌++◌, take, map}
use Rattle.cube_desc.specs.Resolve.{wide_fact}
use Rattle.cube_desc.proofs.resolve.push_wide_facts.Given as goal

abbrev pub invariant-loop-column : goal.invariant-loop-column
invariant-loop-column l = l.columns.items ≡ l.initial.columns.items ++ map wide_fact (take l.column-index l.facts)
