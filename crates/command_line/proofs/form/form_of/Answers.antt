use Rattle.std.proofs.Common.{◌≡◌, None, Some, true, false}
use Rattle.command_line.specs.Words.{bytes_of_words}
use Rattle.command_line.proofs.FormFacts.{no_command}
use Rattle.command_line.proofs.form.form_of.Goals as goal
use Rattle.command_line.proofs.form.form_of.Goals.{then-is_on_path-via-then-is_on_path, then-is_on_path-via-else-is_on_path+then-is_path_first, then-is_on_path-via-else-is_on_path+else-is_path_first+then-is_path_last}

pub returns-then-is_on_path-clause-some : goal.returns-then-is_on_path-clause-some
returns-then-is_on_path-clause-some c =
    elim c.then-is_on_path.branch [
      | then-is_on_path-via-then-is_on_path w ↦ let h = c.is_on_path.ensures.yes w.if-is_on_path.true in (h.0, None, (h.1, h.2))
      | then-is_on_path-via-else-is_on_path+then-is_path_first w ↦ let h = w.is_path_first.ensures.yes w.if-is_path_first.true in (h.0, Some h.1, h.2)
      | then-is_on_path-via-else-is_on_path+else-is_path_first+then-is_path_last w ↦ let h = w.is_path_last.ensures.yes w.if-is_path_last.true in (h.0, Some h.1, h.2)
    ]

pub returns-clause-none : goal.returns-clause-none
returns-clause-none c =
    no_command (bytes_of_words c.args.words.now)
    (λ path e p. let t : false ≡ true = c.if-is_on_path.ensures.no path e p in cc)
    (λ path w n e p k. let t : false ≡ true = c.if-is_path_first.ensures.no path w n e p k in cc)
    (λ path w n e p k. let t : false ≡ true = c.if-is_path_last.ensures.no path w n e p k in cc)
    (λ h. let t : false ≡ true = c.if-is_demo.ensures.1 h in cc)
    (λ path e p. let t : false ≡ true = c.if-is_on_path-2.ensures.no path e p in cc)
    (λ path e p. let t : false ≡ true = c.if-is_on_path-3.ensures.no path e p in cc)
    (λ h. let t : false ≡ true = c.if-is_step.ensures.1 h in cc)
