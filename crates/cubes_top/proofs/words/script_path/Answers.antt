use Rattle.std.proofs.Common.{◌≡◌, ℕ, Option, Some, Err, ap, subst, inr}
use Rattle.std.specs.String.{string_bytes}
use Rattle.command_line.specs.Words.{Say, bytes_of_words, run}
use Rattle.cubes_top.proofs.RunWords.{unlawful-no_run}
use Rattle.cubes_top.proofs.words.script_path.Goals as goal

pub returns-in-Some-eq1-clause-some : goal.returns-in-Some-eq1-clause-some
returns-in-Some-eq1-clause-some c =
    let said = rw c.in-Ok-Run.field-0-is at c.in-Ok-Run.ensures.ok in
    let one : c.in-Ok-Run.workers ≡ Some 1 = cc in
    inr (subst (λ (workers : Option ℕ). Say (bytes_of_words c.args.words.now) (run (string_bytes c.in-Ok-Run.path) workers)) one said)

pub returns-in-Err-BadWords-clause-none : goal.returns-in-Err-BadWords-clause-none
returns-in-Err-BadWords-clause-none c = unlawful-no_run c.args.words.now (c.in-Err-BadWords.ensures.bad_words.0 (ap Err c.in-Err-BadWords.field-0-is))
