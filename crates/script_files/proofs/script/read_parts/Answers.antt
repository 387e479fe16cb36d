use Rattle.std.proofs.Common.{◌+◌, ◌<◌, ℕ, List, map, length, take, sym, ap, ◌∙◌}
use Rattle.script_reader.specs.Lines.{without_last}
use Rattle.script_files.proofs.Lines.{refused}
use Rattle.script_files.specs.declared.script.ScriptReader.{ScriptReader}
use Rattle.script_files.proofs.Whole.{first_fault, good_all, good_more, line_at, no_parts_more, number_of_next, read_all, read_more, refusing, told_at, within_lines}
use Rattle.script_files.proofs.script.read_parts.Goals as goal

pub loop-part-preserved : goal.loop-part-preserved
loop-part-preserved c =
    let lines : List (List ℕ) = map (λ part. without_last 13 part.now) c.args.parts.now in
    let i = c.loop-part.part-index in
    let within : i < length lines = within_lines (λ part. without_last 13 part.now) c.args.parts.now i c.loop-part-test.true in
    let at = line_at (λ part. without_last 13 part.now) c.args.parts.now i _ c.without_last.result.now c.without_last.ensures c.loop-part-test.true in (
      read_more lines i c.without_last.result.now c.read.new.self within at (c.in-Ok.ensures.ok (take i lines) c.loop-part.invariant.0),
      c.in-Ok.ensures.small,
      good_more lines i c.without_last.result.now at (c.in-Ok.ensures.good (take i lines) c.loop-part.invariant.0) c.loop-part.invariant.2,
    )

pub returns-in-Err-clause-fault : goal.returns-in-Err-clause-fault
returns-in-Err-clause-fault c = λ fault h.
    let lines : List (List ℕ) = map (λ part. without_last 13 part.now) c.args.parts.now in
    let i = c.loop-part.part-index in
    let within : i < length lines = within_lines (λ part. without_last 13 part.now) c.args.parts.now i c.loop-part-test.true in
    let at = line_at (λ part. without_last 13 part.now) c.args.parts.now i _ c.without_last.result.now c.without_last.ensures c.loop-part-test.true in
    let told = told_at ScriptReader (c.read.new.self.counts.lines + 1) c.in-Err.refusal fault (ap (refusing ScriptReader) (sym c.refused_at.ensures) ∙ h) in
    first_fault lines i c.without_last.result.now fault within at (c.in-Err.ensures.fault fault.kind (ap refused told.0) (take i lines) c.loop-part.invariant.0) c.loop-part.invariant.2
    (told.1 ∙ number_of_next lines i c.loop-part.reader c.read.new.self.counts within c.loop-part.invariant.0 c.in-Err.ensures.stays)

pub returns : goal.returns
returns c =
    let past = no_parts_more (λ part. without_last 13 part.now) c.args.parts.now c.loop-part.part-index c.loop-part-test.false in
    record {
      read = read_all (map (λ part. without_last 13 part.now) c.args.parts.now) c.loop-part.part-index c.loop-part.reader past c.loop-part.invariant.0;
      good = good_all (map (λ part. without_last 13 part.now) c.args.parts.now) c.loop-part.part-index past c.loop-part.invariant.2;
      fault = λ fault h. cc;
    }
