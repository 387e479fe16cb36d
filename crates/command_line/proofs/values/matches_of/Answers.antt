use Rattle.std.proofs.Common.{ap, ◌∙◌}
use Rattle.std.proofs.lemmas.Result.{IfErr-weaker}
use Rattle.clap.specs.Words.{App, takes}
use Rattle.command_line.specs.Words.{bytes_of_words}
use Rattle.command_line.proofs.ProgramFacts.{lawful_taken}
use Rattle.command_line.proofs.values.matches_of.Goals as goal

pub returns-clause-err : goal.returns-clause-err
returns-clause-err c =
    let words = bytes_of_words c.args.words.now in
    let parse = c.try_get_matches_from in
    IfErr-weaker parse.result _ _ (λ e h. h (ap (λ (a : App). takes a words) c.in_ok-program.ensures ∙ lawful_taken words c.requires)) parse.ensures.passes
