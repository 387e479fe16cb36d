use Rattle.std.proofs.Common.{sym, ap, ◌∙◌}
use Rattle.script_reader.specs.Faults.{fault_after}
use Rattle.script_reader.specs.declared.line.Counts.{Counts}
use Rattle.script_files.proofs.Lines.{passed_read, said_read, small_more, told_kind}
use Rattle.script_files.proofs.script.ScriptReader.read.Goals as goal

pub returns-in-Ok-None-clause-ok : goal.returns-in-Ok-None-clause-ok
returns-in-Ok-None-clause-ok c =
    λ before h. passed_read before c.args.line.now c.args.self.now c.counted-self.result c.counted-self.ensures (rw c.in-Ok-None.field-0-is at c.in-Ok-None.ensures) h

pub returns-in_ok-take-in-Ok-Some-clause-ok : goal.returns-in_ok-take-in-Ok-Some-clause-ok
returns-in_ok-take-in-Ok-Some-clause-ok c =
    λ before h. said_read before c.args.line.now c.args.self.now c.take.new.self c.in-Ok-Some.said (rw c.in-Ok-Some.field-0-is at c.in-Ok-Some.ensures) c.in_ok-take-in-Ok-Some.ensures.takes h

pub returns-in-Err-clause-fault : goal.returns-in-Err-clause-fault
returns-in-Err-clause-fault c = λ kind e before h.
    ap (λ (counts : Counts). fault_after counts c.args.line.now) (sym h.counts) ∙ told_kind c.args.self.now.counts c.args.line.now c.in-Err.refusal kind c.in-Err.ensures e

pub returns-in_ok-take-in-Ok-Some-clause-small : goal.returns-in_ok-take-in-Ok-Some-clause-small
returns-in_ok-take-in-Ok-Some-clause-small c =
    let said = rw c.in-Ok-Some.field-0-is at c.in-Ok-Some.ensures in
    small_more c.args.self.now.counts c.take.new.self.counts c.args.line.now c.in-Ok-Some.said.word c.requires said.sound c.in_ok-take-in-Ok-Some.ensures.takes.counts
