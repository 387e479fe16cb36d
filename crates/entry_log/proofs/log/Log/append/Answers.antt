use Rattle.entry_log.specs.Kept.{IsBeforeOrAfter}
use Rattle.entry_log.proofs.Runs.{reads_one}
use Rattle.entry_log.proofs.log.Log.append.Goals as goal

-- what is read is one of the images
pub returns-clause-reads : goal.returns-clause-reads
returns-clause-reads g c = λ bodies bytes keeps told.
    reads_one g.D.Disk.clock g.D.Disk.image_since g.D.Disk.content g.D.Disk.crash_image c.args.disk.now c.add.new.disk (IsBeforeOrAfter bodies c.args.body.now) bytes (g.met.D.Disk.now_is_since c.add.new.disk) (g.met.D.Disk.content_is_image c.add.new.disk bytes told) (c.add.ensures.crash bodies keeps)
