use Rattle.std.proofs.Common.{◌≡◌, ℕ, List, ◌∙◌, subst}
use Rattle.fault_lines.specs.Lines.{Appends}
use Rattle.run_inputs.specs.Lines.{bad_script_line}
use Rattle.run_inputs.proofs.refusal.refuse_script.Goals as goal

pub returns-in-Ok-clause-line : goal.returns-in-Ok-clause-line
returns-in-Ok-clause-line g c same =
    let line : c.as_bytes.result.now ≡ bad_script_line c.args.number = c.as_bytes.ensures.value ∙ c.in-Ok.ensures.ok in
    subst (λ (text : List ℕ). Appends (g.S.Sink.faults c.args.sink.now) (g.S.Sink.faults c.refuse.new.sink) (g.S.Sink.written c.args.sink.now) (g.S.Sink.written c.refuse.new.sink) text)
    line (c.refuse.ensures.line same)
