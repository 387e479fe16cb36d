use Rattle.std.proofs.Common.{◌≡◌, ◌∙◌, Err, ap, subst, sym}
use Rattle.entry_log.specs.declared.fault.LogFault.TheVariants.{NotLog}
use Rattle.entry_log.specs.Logs.{IsNoLog}
use Rattle.entry_log.proofs.LeftAlone.{err_has, opened}
use Rattle.entry_log.proofs.log.Log.open.Goals as goal

pub returns-in_err-opened-clause-not_log : goal.returns-in_err-opened-clause-not_log
returns-in_err-opened-clause-not_log g c = λ is file told.
    subst IsNoLog (c.as_slice.ensures.value ∙ c.in_ok-bytes.ensures.bytes file told)
    (c.in_err-opened.ensures.not_log (let same = err_has c.from_residual-in_err-opened.result NotLog _ is c.from_residual-in_err-opened.ensures.1 in ap Err (sym same)))

pub returns-in_err-close_gate-clause-crash : goal.returns-in_err-close_gate-clause-crash
returns-in_err-close_gate-clause-crash g c = λ file told.
    opened g.D.Disk.content g.D.Disk.crash_image g.D.Disk.clock g.D.Disk.image_since g.D.Disk.faults c.args.disk.now c.read_durable.new.disk c.close_gate.new.disk file c.as_slice-2.result.now c.read_durable.ensures.looked told
    (c.as_slice-2.ensures.value ∙ c.in_ok-bytes.ensures.bytes file told) (c.in_ok-bytes.ensures.durable file told) c.close_gate.ensures.crash

pub returns-clause-crash : goal.returns-clause-crash
returns-clause-crash g c = λ file told.
    opened g.D.Disk.content g.D.Disk.crash_image g.D.Disk.clock g.D.Disk.image_since g.D.Disk.faults c.args.disk.now c.read_durable.new.disk c.close_gate.new.disk file c.as_slice-2.result.now c.read_durable.ensures.looked told
    (c.as_slice-2.ensures.value ∙ c.in_ok-bytes.ensures.bytes file told) (c.in_ok-bytes.ensures.durable file told) c.close_gate.ensures.crash
