use Rattle.std.proofs.Common.{rules}
use Rattle.command_line.specs.Words.{bytes_of_words}
use Rattle.command_line.proofs.ProgramFacts.{lawful}
use Rattle.command_line.proofs.read.read_words.Goals as goal

pub returns-in-Err-clause-bad_words : goal.returns-in-Err-clause-bad_words
returns-in-Err-clause-bad_words c =
    (λ e. absurd (search rules), λ unlawful. absurd (unlawful (lawful c.in-Some.form (bytes_of_words c.args.words.now) c.in-Some.ensures.some)))
