use Rattle.std.proofs.Common.{◌≡◌, sym, subst, ℕ, List}
use Rattle.std.proofs.lemmas.Result.{IfOk-weaker}
use Rattle.disk_image.specs.MemoryDisk.{CrashImage, calls_until, stopped}
use Rattle.disk_image.proofs.Images.{stopped_is_image}
use Rattle.disk_image.proofs.memory_disk.MemoryDisk.after_stop.Goals as goal

pub returns-clause-left : goal.returns-clause-left
returns-clause-left c =
    let start = c.args.self.now.start in
    let calls = calls_until c.args.call c.args.self.now.calls in
    IfOk-weaker c.stopped_behind.result
    (λ image. image.items ≡ stopped c.args.fill start calls)
    (λ image. CrashImage start calls image.items)
    (λ image is. subst (λ (l : List ℕ). CrashImage start calls l) (sym is) (stopped_is_image c.args.fill start calls))
    c.stopped_behind.ensures
