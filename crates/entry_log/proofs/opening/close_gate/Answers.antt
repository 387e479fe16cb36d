use Rattle.std.proofs.Common.{◌≡◌, length, arith}
use Rattle.disk_image.specs.Changes.{Torn}
use Rattle.disk_image.proofs.CrashConditions.{of_weaker}
use Rattle.entry_log.specs.Kept.{IsStill}
use Rattle.entry_log.proofs.Reading.{still_single}
use Rattle.entry_log.proofs.opening.close_gate.Goals as goal

pub returns-in-1-clause-crash : goal.returns-in-1-clause-crash
returns-in-1-clause-crash g c = λ told durable.
    let one : length c.args.bytes.now ≡ 1 = omega (arith, c.in-1.len_at_least, c.in-1.len_below) in
    of_weaker g.D.Disk.clock g.D.Disk.image_since c.args.disk.now c.write_kept.new.disk (Torn (length c.args.bytes.now) 0 1 c.args.bytes.now) (IsStill c.args.bytes.now) (λ left torn. still_single c.args.bytes.now left one torn)
    (c.write_kept.ensures.crash c.args.bytes.now told durable)
