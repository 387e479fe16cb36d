use Rattle.std.proofs.Common.{◌≡◌, drop}
use Rattle.std.specs.Prelude.{find}
use Rattle.run_history.specs.Sets.{is_overlap}
use Rattle.run_state.proofs.verdicts.overlapping_range.Given as goal

abbrev pub invariant-loop-place : goal.invariant-loop-place
invariant-loop-place l = find (λ other. is_overlap other l.range) l.ranges ≡ find (λ other. is_overlap other l.range) (drop l.place l.ranges)
