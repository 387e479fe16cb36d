use Rattle.entry_log.proofs.Runs.{made, making}
use Rattle.entry_log.proofs.log.Log.create.Goals as goal

pub returns-in_err-write_kept-clause-crash : goal.returns-in_err-write_kept-clause-crash
returns-in_err-write_kept-clause-crash g c = λ none only. making g.D.Disk.clock g.D.Disk.image_since g.D.Disk.content g.D.Disk.crash_image c.args.disk.now c.write_kept.new.disk none only c.write_kept.ensures.crash

pub returns-clause-kept : goal.returns-clause-kept
returns-clause-kept g c = λ none. made g.D.Disk.clock g.D.Disk.image_since g.D.Disk.content g.D.Disk.crash_image c.args.disk.now c.write_kept.new.disk none c.in_ok-write_kept.ensures.kept

pub returns-clause-crash : goal.returns-clause-crash
returns-clause-crash g c = λ none only. making g.D.Disk.clock g.D.Disk.image_since g.D.Disk.content g.D.Disk.crash_image c.args.disk.now c.write_kept.new.disk none only c.write_kept.ensures.crash
