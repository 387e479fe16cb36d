use Rattle.std.proofs.Common.{◌≡◌, ◌++◌, ◌∷◌, [], List, ℕ, refl, ap, ◌∙◌, append-nil}
use Rattle.std.specs.Prelude.{codes}
use Rattle.std.specs.Fmt.{digits}
use Rattle.std.proofs.lemmas.List.Concat.{flat_map-append}
use Rattle.csv.specs.Writing.{escaped, fields_text, is_blank}
use Rattle.job_machine.specs.declared.state.JobKind.TheVariants.{Build}
use Rattle.job_machine.specs.declared.state.JobState.TheVariants.{Error, Finished, Pending}
use Rattle.script_text.specs.Blocks.{block_text}
use Rattle.calendar.specs.DayTexts.{day_text, month_of, year_of}
use Rattle.script_text.specs.declared.block.Block.TheVariants as block
use Rattle.run_transcript.specs.Entries.{told, told_text}
use Rattle.run_transcript.specs.Examples.{answer, before_answer, first_blocks, history, inputs, january, served, text_of}
use Rattle.run_transcript.proofs.SmallAnswer.{told_all}
use Rattle.run_transcript.specs.Runs.{is_whole, world_of}
use Rattle.run_transcript.specs.Transcripts.{end_if, entries_of}
use Rattle.run_transcript.proofs.examples.worked_transcript.Goals as goal

-- the days of the range
starts : day_text 734868 ≡ codes "2012-01-01"
unfolding day_text year_of month_of
starts = refl

ends : day_text 734899 ≡ codes "2012-02-01"
unfolding day_text year_of month_of
ends = refl

job_text : block_text 3 (block.Job 1 Build january) ≡ codes "[3] job 1: BUILD 2012-01-01 2012-02-01\n"
unfolding digits
job_text = rw (starts, ends) refl

first_text : List ℕ
first_text = codes "[1] cube FIXED: 2 dimensions, 1 measures, 1 cuboids\n[2] loaded F: 3 rows\n[3] job 1: BUILD 2012-01-01 2012-02-01\n[4] job 1: ERROR\n[5] job 1: PENDING\n[6] job 1: FINISHED\n"

text_first : text_of first_blocks ≡ first_text
unfolding digits first_text
text_first =
    ap (λ (t : List ℕ).
    block_text 1 (block.Cube (codes "FIXED") 2 1 1) ++ (block_text 2 (block.Loaded (codes "F") 3) ++ (t ++ text_of ((4, block.State 1 Error) ∷ (5, block.State 1 Pending) ∷ (6, block.State 1 Finished) ∷ []))))
    job_text

told_first : told (entries_of served inputs before_answer) ≡ first_blocks
told_first = refl

answer_text : text_of ((7, answer) ∷ []) ≡ codes "[7] query: 2 rows\nD1,COUNT(*),SUM(M)\na,1,1\nb,1,2\n"
unfolding escaped fields_text is_blank digits
answer_text = refl

not_whole : end_if served inputs (is_whole served inputs before_answer) (world_of served inputs before_answer) ≡ []
not_whole = refl

last_line : end_if served inputs (is_whole served inputs history) (world_of served inputs history) ≡ codes "end: 1 finished, 0 in error, 0 stopped, 0 discarded; 1 segments\n"
unfolding digits
last_line = refl

pub returns-clause-before : goal.returns-clause-before
unfolding first_text
returns-clause-before c =
    ap (λ (l : List ℕ). told_text (entries_of served inputs before_answer) ++ l) not_whole
    ∙ (append-nil (told_text (entries_of served inputs before_answer)) ∙ (ap text_of told_first ∙ text_first))

whole_text : told_text (entries_of served inputs history) ≡ first_text ++ codes "[7] query: 2 rows\nD1,COUNT(*),SUM(M)\na,1,1\nb,1,2\n"
whole_text =
    ap text_of told_all ∙ (flat_map-append (λ t. block_text t.0 t.1) first_blocks ((7, answer) ∷ [])
    ∙ (ap (λ (l : List ℕ). l ++ text_of ((7, answer) ∷ [])) text_first ∙ ap (λ (l : List ℕ). first_text ++ l) answer_text))

pub returns-clause-whole : goal.returns-clause-whole
unfolding first_text
returns-clause-whole c =
    ap (λ (l : List ℕ). told_text (entries_of served inputs history) ++ l) last_line
    ∙ ap (λ (l : List ℕ). l ++ codes "end: 1 finished, 0 in error, 0 stopped, 0 discarded; 1 segments\n") whole_text
