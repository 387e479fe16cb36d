use Rattle.std.proofs.Common.{◌∙◌, List, map, ap}
use Rattle.script_text.specs.declared.verb.Line.{Line}
use Rattle.fixed_script.specs.declared.script.ScriptReader.{ScriptReader}
use Rattle.fixed_script.proofs.Whole.{bad_line, lines_are, no_command, same_refusal, whole_script, zero_line}
use Rattle.fixed_script.proofs.script.read_fixed_script.Goals as goal

pub returns-in-Err-clause-bad : goal.returns-in-Err-clause-bad
returns-in-Err-clause-bad c =
    let parts = ap (map (λ part. part.now)) c.as_slice.ensures.value ∙ c.in-Ok.ensures in
    λ number h. bad_line c.args.bytes.now _ number
    (lines_are (λ part. part.now) c.args.bytes.now c.without_last-text.result.now c.as_slice.result.now c.without_last-text.ensures parts)
    (c.in-Err.ensures.bad number (same_refusal (List Line) ScriptReader _ _ h))

pub returns-then-reader-clause-ok : goal.returns-then-reader-clause-ok
returns-then-reader-clause-ok c =
    let parts = ap (map (λ part. part.now)) c.as_slice.ensures.value ∙ c.in-Ok.ensures in
    whole_script c.args.bytes.now _ c.in-Ok-read_parts.reader
    (lines_are (λ part. part.now) c.args.bytes.now c.without_last-text.result.now c.as_slice.result.now c.without_last-text.ensures parts)
    c.in-Ok-read_parts.ensures.read c.in-Ok-read_parts.ensures.good c.if-reader.true

pub returns-clause-bad : goal.returns-clause-bad
returns-clause-bad c =
    let parts = ap (map (λ part. part.now)) c.as_slice.ensures.value ∙ c.in-Ok.ensures in
    λ number h. no_command c.args.bytes.now _ c.in-Ok-read_parts.reader number (zero_line (List Line) number h)
    (lines_are (λ part. part.now) c.args.bytes.now c.without_last-text.result.now c.as_slice.result.now c.without_last-text.ensures parts)
    c.in-Ok-read_parts.ensures.read c.in-Ok-read_parts.ensures.good c.if-reader.false
