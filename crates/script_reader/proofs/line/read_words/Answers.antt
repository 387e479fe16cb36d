use Rattle.std.proofs.Common.{None, Some, Ok, Err, sym, ◌∙◌}
use Rattle.script_reader.specs.Lines.{after_word, text_after_word, words_of}
use Rattle.script_reader.specs.declared.fault.LineRefusal.TheVariants.{Fault}
use Rattle.script_reader.specs.declared.fault.ScriptKind.TheVariants.{UnknownCommand}
use Rattle.script_reader.proofs.Readings.{at_cut, reads_nothing, reads_comment, reads_unknown, reads_said, reads_refusal}
use Rattle.script_reader.proofs.line.read_words.Goals as goal

pub returns-in_default : goal.returns-in_default
returns-in_default c = reads_nothing c.args.counts (words_of c.args.line.now) (text_after_word (after_word c.args.line.now)) c.in_default.ensures.none

pub returns-then-is_comment : goal.returns-then-is_comment
returns-then-is_comment c =
    at_cut c.args.counts c.args.line.now c.in-Some.word.now c.in-Some.rest.now (Ok None) c.in-Some.ensures.some c.in-Some.ensures.rest
    (reads_comment c.args.counts c.in-Some.word.now (words_of c.in-Some.rest.now) (text_after_word c.in-Some.rest.now) (sym c.is_comment.ensures ∙ c.if-is_comment.true))

pub returns-in_default-command_word : goal.returns-in_default-command_word
returns-in_default-command_word c =
    at_cut c.args.counts c.args.line.now c.in-Some.word.now c.in-Some.rest.now (Err (Fault UnknownCommand)) c.in-Some.ensures.some c.in-Some.ensures.rest
    (reads_unknown c.args.counts c.in-Some.word.now (words_of c.in-Some.rest.now) (text_after_word c.in-Some.rest.now)
    (sym c.is_comment.ensures ∙ c.if-is_comment.false) (sym c.in_default-command_word.ensures))

pub returns-in-Ok : goal.returns-in-Ok
returns-in-Ok c =
    at_cut c.args.counts c.args.line.now c.in-Some.word.now c.in-Some.rest.now (Ok (Some c.in-Ok.said)) c.in-Some.ensures.some c.in-Some.ensures.rest
    (reads_said c.args.counts c.in-Some.word.now (words_of c.in-Some.rest.now) (text_after_word c.in-Some.rest.now) c.in-Some-command_word.word c.in-Ok.said
    (sym c.is_comment.ensures ∙ c.if-is_comment.false) (sym c.in-Some-command_word.ensures) c.in-Ok.ensures)

pub returns-in-Err : goal.returns-in-Err
returns-in-Err c =
    at_cut c.args.counts c.args.line.now c.in-Some.word.now c.in-Some.rest.now (Err c.in-Err.refusal) c.in-Some.ensures.some c.in-Some.ensures.rest
    (reads_refusal c.args.counts c.in-Some.word.now (words_of c.in-Some.rest.now) (text_after_word c.in-Some.rest.now) c.in-Some-command_word.word c.in-Err.refusal
    (sym c.is_comment.ensures ∙ c.if-is_comment.false) (sym c.in-Some-command_word.ensures) c.in-Err.ensures)
