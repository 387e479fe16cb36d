use Rattle.entry_log.proofs.LeftAlone.{one_look}
use Rattle.entry_log.proofs.opening.length_of.Goals as goal

pub returns-clause-looked : goal.returns-clause-looked
returns-clause-looked g c = one_look g.D.Disk.content g.D.Disk.crash_image g.D.Disk.clock g.D.Disk.image_since g.D.Disk.faults c.args.disk.now c.len.new.self (g.met.D.Disk.since_now_is_now c.args.disk.now) c.len.ensures.same c.len.ensures.images c.len.ensures.time c.len.ensures.faults
