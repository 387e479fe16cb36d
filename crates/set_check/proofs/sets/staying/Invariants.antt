use Rattle.std.proofs.Common.{◌≡◌, ◌≤◌, length, not, take}
use Rattle.std.specs.Prelude.{filter}
use Rattle.run_history.specs.Sets.{is_inside}
use Rattle.set_check.proofs.sets.staying.Given as goal

abbrev pub invariant-loop-i : goal.invariant-loop-i
invariant-loop-i l = (l.staying ≡ length (filter (λ s. not (is_inside l.range s.range)) (take l.i l.set.segments))) × (l.staying ≤ l.i)
