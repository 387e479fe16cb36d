use Rattle.std.proofs.Common.{◌∙◌, List, map, sym, ap}
use Rattle.script_text.specs.declared.verb.Line.{Line}
use Rattle.script_files.specs.declared.script.ScriptReader.{ScriptReader}
use Rattle.script_files.proofs.Whole.{bad_line, lines_are, no_command, same_refusal, told_fault, whole_script}
use Rattle.script_files.proofs.script.read_script.Goals as goal

pub returns-in-Err-clause-fault : goal.returns-in-Err-clause-fault
returns-in-Err-clause-fault c =
    let parts = ap (map (λ part. part.now)) c.as_slice.ensures.value ∙ c.in-Ok.ensures in
    λ fault h. bad_line c.args.bytes.now _ fault
    (lines_are (λ part. part.now) c.args.bytes.now c.without_last-text.result.now c.as_slice.result.now c.without_last-text.ensures parts)
    (c.in-Err.ensures.fault fault (same_refusal (List Line) ScriptReader _ _ h))

pub returns-then-reader-clause-ok : goal.returns-then-reader-clause-ok
returns-then-reader-clause-ok c =
    let parts = ap (map (λ part. part.now)) c.as_slice.ensures.value ∙ c.in-Ok.ensures in
    whole_script c.args.bytes.now _ c.in-Ok-read_parts.reader
    (lines_are (λ part. part.now) c.args.bytes.now c.without_last-text.result.now c.as_slice.result.now c.without_last-text.ensures parts)
    c.in-Ok-read_parts.ensures.read c.in-Ok-read_parts.ensures.good c.if-reader.true

pub returns-clause-fault : goal.returns-clause-fault
returns-clause-fault c =
    let parts = ap (map (λ part. part.now)) c.as_slice.ensures.value ∙ c.in-Ok.ensures in
    λ fault h. no_command c.args.bytes.now _ c.in-Ok-read_parts.reader fault (sym (told_fault (List Line) _ fault h))
    (lines_are (λ part. part.now) c.args.bytes.now c.without_last-text.result.now c.as_slice.result.now c.without_last-text.ensures parts)
    c.in-Ok-read_parts.ensures.read c.in-Ok-read_parts.ensures.good c.if-reader.false
