use Rattle.std.proofs.Common.{◌≡◌, ◌∷◌, [], sym, ◌∙◌}
use Rattle.command_line.specs.Words.{bytes_of_words}
use Rattle.command_line.proofs.form.is_demo.Goals as goal

pub returns-then-is_number : goal.returns-then-is_number
returns-then-is_number c =
    let read = c.in-Some-demo-default-default in
    let here : bytes_of_words c.args.words.now ≡ read.field-0-0.now ∷ read.word.now ∷ read.rows.now ∷ [] = read.ensures.some in (
      λ yes. let n = c.is_number.ensures.0 c.if-is_number.true in let rows = c.is_rows.ensures.0 yes in
          (n.0, rows.0, (read.word.now, read.rows.now, rw read.is-demo at here, n.1, rows.1)),
      λ h. let both = sym here ∙ h.2.2 in let same : read.rows.now ≡ h.2.1 = cc both in c.is_rows.ensures.1 (h.1, rw same h.2.4),
    )
