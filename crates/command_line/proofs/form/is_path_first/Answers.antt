use Rattle.std.proofs.Common.{◌≡◌, ◌∷◌, [], sym, ◌∙◌}
use Rattle.command_line.specs.Words.{bytes_of_words}
use Rattle.command_line.proofs.form.is_path_first.Goals as goal

pub returns-then-is_path-clause-no : goal.returns-then-is_path-clause-no
returns-then-is_path-clause-no c path w n e p k =
    let read = c.in-Some-run-default-default in
    let here : bytes_of_words c.args.words.now ≡ read.field-0-0.now ∷ read.path.now ∷ read.workers.now ∷ [] = read.ensures.some in
    let both = sym here ∙ e in
    let same : read.workers.now ≡ w = cc both in
    c.is_workers.ensures.1 (n, rw same k)
