use Rattle.entry_log.proofs.LeftAlone.{one_look}
use Rattle.entry_log.proofs.opening.piece_at.Goals as goal

pub returns-clause-looked : goal.returns-clause-looked
returns-clause-looked g c = one_look g.D.Disk.content g.D.Disk.crash_image g.D.Disk.clock g.D.Disk.image_since g.D.Disk.faults c.args.disk.now c.read.new.self (g.met.D.Disk.since_now_is_now c.args.disk.now) c.read.ensures.same c.read.ensures.images c.read.ensures.time c.read.ensures.faults
