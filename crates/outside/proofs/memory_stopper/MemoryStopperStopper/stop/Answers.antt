use Rattle.std.proofs.Common.{◌≡◌, ap, subst}
use Rattle.outside.specs.MemoryStopper.{StopperState}
use Rattle.outside.specs.Numbering.{NextFails, Numbering}
use Rattle.outside.proofs.memory_stopper.MemoryStopperStopper.stop.Goals as goal

pub returns-then-fails-clause-failed_numbered : goal.returns-then-fails-clause-failed_numbered
returns-then-fails-clause-failed_numbered c =
    let P : Numbering → Type 0 = NextFails in
    let held : c.self.inside.calls ≡ c.args.self.now.calls = cc (ap (λ (s : StopperState). s.calls) c.self.view_is) in
    λ _. subst P held (c.next_fails-fails.ensures.fails.0 c.if-fails.true)
