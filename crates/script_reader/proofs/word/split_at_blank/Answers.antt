use Rattle.std.proofs.Common.{◌∙◌, drop, take, ap, ℕ}
use Rattle.script_reader.specs.Lines.{is_blank}
use Rattle.script_reader.proofs.Words.{place_or_length}
use Rattle.script_reader.proofs.word.split_at_blank.Goals as goal

pub returns : goal.returns
returns c =
    let place = c.unwrap_or-at.ensures ∙ place_or_length is_blank c.args.bytes.now c.first_blank.result c.first_blank.ensures.place in
    record {
      front = c.split_at.ensures.front ∙ ap (λ (n : ℕ). take n c.args.bytes.now) place;
      back = c.split_at.ensures.back ∙ ap (λ (n : ℕ). drop n c.args.bytes.now) place;
    }
