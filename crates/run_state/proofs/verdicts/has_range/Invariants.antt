use Rattle.std.proofs.Common.{◌≡◌, drop}
use Rattle.std.specs.List.{list_any}
use Rattle.run_history.specs.Sets.{is_same_range}
use Rattle.run_state.proofs.verdicts.has_range.Given as goal

abbrev pub invariant-loop-place : goal.invariant-loop-place
invariant-loop-place l = list_any (λ other. is_same_range l.range other) l.ranges ≡ list_any (λ other. is_same_range l.range other) (drop l.place l.ranges)
