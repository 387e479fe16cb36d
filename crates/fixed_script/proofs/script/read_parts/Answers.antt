use Rattle.std.proofs.Common.{◌<◌, ℕ, List, map, length, take, refl}
use Rattle.script_reader.specs.Lines.{without_last}
use Rattle.fixed_script.proofs.Whole.{first_bad, good_all, good_more, line_at, no_parts_more, number_of_next, read_all, read_more, within_lines}
use Rattle.fixed_script.proofs.script.read_parts.Goals as goal

pub loop-part-preserved : goal.loop-part-preserved
loop-part-preserved c =
    let lines : List (List ℕ) = map (λ part. without_last 13 part.now) c.args.parts.now in
    let i = c.loop-part.part-index in
    let within : i < length lines = within_lines (λ part. without_last 13 part.now) c.args.parts.now i c.loop-part-test.true in
    let at = line_at (λ part. without_last 13 part.now) c.args.parts.now i _ c.without_last.result.now c.without_last.ensures c.loop-part-test.true in (
      read_more lines i c.without_last.result.now c.read.new.self within at (c.in-Ok.ensures.ok (take i lines) c.loop-part.invariant.0),
      c.in-Ok.ensures.small,
      good_more lines i c.without_last.result.now at (c.in-Ok.ensures.good (take i lines) c.loop-part.invariant.0) c.loop-part.invariant.2,
    )

pub returns-in-Err-Bad : goal.returns-in-Err-Bad
returns-in-Err-Bad c =
    let lines : List (List ℕ) = map (λ part. without_last 13 part.now) c.args.parts.now in
    let i = c.loop-part.part-index in
    let within : i < length lines = within_lines (λ part. without_last 13 part.now) c.args.parts.now i c.loop-part-test.true in
    let at = line_at (λ part. without_last 13 part.now) c.args.parts.now i _ c.without_last.result.now c.without_last.ensures c.loop-part-test.true in
    let e = rw c.in-Err-Bad.field-0-is at c.in-Err-Bad.ensures in
    record {
      read = tt;
      good = tt;
      bad = λ number h. first_bad lines i c.without_last.result.now number within at (e.bad refl (take i lines) c.loop-part.invariant.0) c.loop-part.invariant.2
          (number_of_next lines i c.loop-part.reader c.read.new.self.counts number within c.loop-part.invariant.0 e.stays h);
    }

pub returns : goal.returns
returns c =
    let past = no_parts_more (λ part. without_last 13 part.now) c.args.parts.now c.loop-part.part-index c.loop-part-test.false in
    record {
      read = read_all (map (λ part. without_last 13 part.now) c.args.parts.now) c.loop-part.part-index c.loop-part.reader past c.loop-part.invariant.0;
      good = good_all (map (λ part. without_last 13 part.now) c.args.parts.now) c.loop-part.part-index past c.loop-part.invariant.2;
      bad = λ number h. cc;
    }
