use Rattle.fixed_script.specs.Reading.{Takes}
use Rattle.fixed_script.proofs.Lines.{on_ok, passed_read, said_read}
use Rattle.fixed_script.proofs.script.ScriptReader.read.Goals as goal

pub returns-in-Ok-None-clause-ok : goal.returns-in-Ok-None-clause-ok
returns-in-Ok-None-clause-ok c =
    λ before h. passed_read before c.args.line.now c.args.self.now c.counted-self.result c.counted-self.ensures (rw c.in-Ok-None.field-0-is at c.in-Ok-None.ensures) h

pub returns-in-Ok-Some-clause-ok : goal.returns-in-Ok-Some-clause-ok
returns-in-Ok-Some-clause-ok c =
    on_ok c.take.result (Takes c.args.self.now c.take.new.self c.in-Ok-Some.said) _
    (λ t before h. said_read before c.args.line.now c.args.self.now c.take.new.self c.in-Ok-Some.said (rw c.in-Ok-Some.field-0-is at c.in-Ok-Some.ensures) t h) c.take.ensures.takes
