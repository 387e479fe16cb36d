use Rattle.std.proofs.Common.{◌≡◌, ◌++◌, take, map}
use Rattle.desc_checks.specs.Repeats.{in_table}
use Rattle.desc_checks.proofs.repeats.push_derived.Given as goal

abbrev pub invariant-loop-name : goal.invariant-loop-name
invariant-loop-name l = l.columns.items ≡ l.initial.columns.items ++ map (λ t. in_table l.table t t.place) (take l.name-index l.names)
