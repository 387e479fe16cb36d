use Rattle.std.proofs.Common.{ap, Err}
use Rattle.std.specs.String.{string_bytes}
use Rattle.command_line.specs.Words.{bytes_of_words}
use Rattle.cubes_plain.proofs.WordFacts.{demo_words, other_words, run_words, unlawful_words}
use Rattle.cubes_plain.proofs.plain.plain_order.Goals as goal

pub returns-in-Ok-Run-clause-bad_words : goal.returns-in-Ok-Run-clause-bad_words
returns-in-Ok-Run-clause-bad_words c same =
    let words = c.args.words.now in
    other_words words (run_words (bytes_of_words words) (string_bytes c.in-Ok-Run.field-0-0) c.in-Ok-Run.field-0-1 (rw c.in-Ok-Run.field-0-is at c.in-Ok-Run.ensures.ok))

pub returns-in-Ok-Demo-clause-bad_words : goal.returns-in-Ok-Demo-clause-bad_words
returns-in-Ok-Demo-clause-bad_words c same =
    let words = c.args.words.now in
    other_words words (demo_words (bytes_of_words words) c.in-Ok-Demo.field-0-0 c.in-Ok-Demo.field-0-1 (rw c.in-Ok-Demo.field-0-is at c.in-Ok-Demo.ensures.ok))

pub returns-in-Err-BadWords-clause-bad_words : goal.returns-in-Err-BadWords-clause-bad_words
returns-in-Err-BadWords-clause-bad_words c same =
    unlawful_words c.args.words.now (c.in-Err-BadWords.ensures.bad_words.0 (ap Err c.in-Err-BadWords.field-0-is))
