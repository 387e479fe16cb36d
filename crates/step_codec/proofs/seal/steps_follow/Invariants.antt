use Rattle.std.proofs.Common.{◌≡◌, ◌+◌, drop}
use Rattle.step_codec.specs.Seals.{steps_follow}
use Rattle.step_codec.proofs.seal.steps_follow.Given as goal

abbrev pub invariant-loop-step : goal.invariant-loop-step
invariant-loop-step l = (steps_follow l.next (drop l.step-index l.done) ≡ steps_follow 1 l.done) × (l.next ≡ l.step-index + 1)
