use Rattle.entry_log.proofs.LeftAlone.{one_look}
use Rattle.entry_log.proofs.opening.keep_all.Goals as goal

pub returns-clause-looked : goal.returns-clause-looked
returns-clause-looked g c = one_look g.D.Disk.content g.D.Disk.crash_image g.D.Disk.clock g.D.Disk.image_since g.D.Disk.faults c.args.disk.now c.sync.new.self (g.met.D.Disk.since_now_is_now c.args.disk.now) c.sync.ensures.same c.sync.ensures.images c.sync.ensures.time c.sync.ensures.faults
