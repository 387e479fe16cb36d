use Rattle.std.proofs.Common.{◌∙◌, drop, ap, ℕ}
use Rattle.script_reader.specs.Lines.{is_not_blank}
use Rattle.script_reader.proofs.Words.{place_or_length}
use Rattle.script_reader.proofs.word.trimmed_start.Goals as goal

pub returns : goal.returns
returns c =
    c.split_at.ensures.back
    ∙ ap (λ (n : ℕ). drop n c.args.line.now)
    (c.unwrap_or-at.ensures ∙ place_or_length is_not_blank c.args.line.now c.first_not_blank.result c.first_not_blank.ensures.place)
