use Rattle.std.proofs.Common.{◌≡◌, ℕ, List, ◌∙◌, subst}
use Rattle.cubes_plain.specs.Descriptors.{bad_descriptor_line}
use Rattle.fault_lines.specs.Lines.{Appends}
use Rattle.cubes_plain.proofs.cuboids.refuse_descriptor.Goals as goal

pub returns-in-Ok-clause-line : goal.returns-in-Ok-clause-line
returns-in-Ok-clause-line g c same =
    let line : c.as_slice.result.now ≡ bad_descriptor_line c.args.fault.now = c.as_slice.ensures.value ∙ c.in-Ok.ensures in
    subst (λ (text : List ℕ). Appends (g.S.Sink.faults c.args.sink.now) (g.S.Sink.faults c.refuse.new.sink) (g.S.Sink.written c.args.sink.now) (g.S.Sink.written c.refuse.new.sink) text)
    line (c.refuse.ensures.line same)
