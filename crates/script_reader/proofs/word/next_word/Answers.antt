use Rattle.std.proofs.Common.{◌∙◌, sym}
use Rattle.script_reader.proofs.Words.{empty_text, no_words, word_and_rest}
use Rattle.script_reader.proofs.word.next_word.Goals as goal

pub returns-then-is_empty-clause-none : goal.returns-then-is_empty-clause-none
returns-then-is_empty-clause-none c =
    no_words c.args.line.now (sym c.trimmed_start-line.ensures ∙ empty_text c.trimmed_start-line.result.now c.is_empty.result c.is_empty.ensures c.if-is_empty.true)

pub returns-else-is_empty-clause-some : goal.returns-else-is_empty-clause-some
returns-else-is_empty-clause-some c =
    word_and_rest c.args.line.now c.trimmed_start-line.result.now c.trimmed_start-line.ensures c.is_empty.result c.is_empty.ensures c.if-is_empty.false
    c.split_at_blank.result.0.now c.split_at_blank.result.1.now c.split_at_blank.ensures.front c.split_at_blank.ensures.back
