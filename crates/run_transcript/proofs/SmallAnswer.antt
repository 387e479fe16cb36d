-- The answer of the worked history.
use Rattle.std.proofs.Common.{◌≡◌, ◌++◌, ◌∷◌, [], ap}
use Rattle.plain_answer.specs.Answers.{plain_of}
use Rattle.plain_answer.specs.declared.answer.AnswerTable.{AnswerTable}
use Rattle.plain_answer.proofs.ConditionLemmas.{at_true}
use Rattle.script_text.specs.declared.block.Block.TheVariants as block
use Rattle.run_transcript.specs.Entries.{told}
use Rattle.run_transcript.specs.Examples.{answer, by_d1, first_blocks, history, inputs, rows_seen, served, table}
use Rattle.run_transcript.specs.Transcripts.{entries_of}

answer_is : plain_of by_d1 rows_seen ≡ table
answer_is = simp at_true

pub told_all : told (entries_of served inputs history) ≡ first_blocks ++ (7, answer) ∷ []
told_all = ap (λ (t : AnswerTable). first_blocks ++ (7, block.Answer t) ∷ []) answer_is
