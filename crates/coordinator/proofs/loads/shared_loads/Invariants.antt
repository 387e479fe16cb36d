use Rattle.std.proofs.Common.{◌≡◌, map}
use Rattle.coordinator.specs.Coordinator.{load_of}
use Rattle.coordinator.proofs.loads.shared_loads.Given as goal

abbrev pub invariant-loop-table : goal.invariant-loop-table
invariant-loop-table l = map load_of l.loads.items ≡ l.yielded
