use Rattle.std.proofs.Common.{length, ap, sym, ◌∙◌}
use Rattle.std.proofs.Math.Seq.{take-length}
use Rattle.std.specs.Io.KnownBytes.{append_known}
use Rattle.fault_lines.proofs.output.refuse.Goals as goal

pub returns-in-Ok-clause-line : goal.returns-in-Ok-clause-line
returns-in-Ok-clause-line g c same =
    let all = c.in-Ok.ensures.ok in
    record {
      part = (length c.args.line.now, all ∙ ap (append_known (g.S.Sink.written c.args.sink.now)) (sym (take-length c.args.line.now)));
      whole = λ _. all;
    }
