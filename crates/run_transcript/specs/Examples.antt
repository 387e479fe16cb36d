-- A small cube, a script over it, and a history in which a step is killed.
use Rattle.std.specs.Prelude.{ℕ, Bool, false, ◌&&◌, nat_le, nat_lt, pos, ℤ, List, [], ◌∷◌, codes, drop, filter, length, map, None, Some, Ok}
use Rattle.std.specs.List.{flat_map}
use Rattle.std.specs.Str.{bytes_eq}
use Rattle.cube_val.specs.declared.val.ColType.TheVariants as ty
use Rattle.cube_val.specs.declared.val.Val.{Val}
use Rattle.cube_val.specs.declared.val.Val.TheVariants.{Int, Text}
use Rattle.job_machine.specs.declared.state.JobKind.TheVariants.{Build}
use Rattle.job_machine.specs.declared.state.JobState.TheVariants.{Error, Finished, Pending}
use Rattle.plain_answer.specs.Answers.{plain_of}
use Rattle.plain_answer.specs.declared.answer.AnswerTable.{AnswerTable}
use Rattle.plain_answer.specs.declared.answer.OutVal.TheVariants as out
use Rattle.plain_answer.specs.declared.answer.OutVal.TheVariants.{Whole}
use Rattle.plain_answer.specs.declared.ask.AggKind.TheVariants as kind
use Rattle.plain_answer.specs.declared.ask.Ask.{Ask}
use Rattle.plain_answer.specs.declared.cond.Cond.TheVariants as cond
use Rattle.plain_answer.specs.declared.cond.Term.TheVariants.{Col, Agg as Agg'}
use Rattle.range_list.specs.Ranges.{Interval}
use Rattle.run_history.specs.Cubes.{CubeSemantics, Rows}
use Rattle.run_history.specs.declared.event.Event.{Event}
use Rattle.run_history.specs.declared.event.Event.TheVariants.{Command, Claim, StepEnd, QueryTake, QueryEnd}
use Rattle.run_history.specs.declared.event.Outcome.TheVariants.{Done, Killed}
use Rattle.run_history.specs.declared.event.QueryOut.TheVariants.{Answered}
use Rattle.run_history.specs.declared.refused.Refused.TheVariants.{NotLoaded}
use Rattle.script_text.specs.Blocks.{block_text}
use Rattle.script_text.specs.declared.block.Block.{Block}
use Rattle.script_text.specs.declared.block.Block.TheVariants as block
use Rattle.script_text.specs.declared.verb.Line.{Line}
use Rattle.script_text.specs.declared.verb.Verb.{Verb}
use Rattle.script_text.specs.declared.verb.Verb.TheVariants as verb
use Rattle.run_transcript.specs.Served.{Inputs, Served}

-- the number of the day in a row's first column lies in a range
abbrev pub is_in : Interval → List Val → Bool
is_in range (Int (pos day) ∷ row) = nat_le range.start day && nat_lt day range.end
is_in range row = false

abbrev pub rows_in : Interval → List Rows → Rows
rows_in range [] = []
rows_in range (facts ∷ lookups) = map (λ row. drop 1 row) (filter (is_in range) facts)

-- one table, three steps a job, and the meaning of queries over the rows of a range, without their days
abbrev pub small : CubeSemantics Ask AnswerTable
small = record {
  tables = codes "F" ∷ [];
  steps = λ kind. 3;
  task = λ kind range parts done. length parts ∷ done ∷ [];
  product = λ task. task;
  is_product = λ task bytes. bytes_eq task bytes;
  rows = λ snapshot. rows_in snapshot.range snapshot.tables;
  answer = plain_of;
  lookup_that_differs = λ parts. None;
}

abbrev pub by_d1 : Ask
by_d1 = record {
  filter = cond.True;
  group = 0 ∷ [];
  aggs = record { kind = kind.Count; column = None; ty = ty.Int } ∷ record { kind = kind.Sum; column = Some 2; ty = ty.Int } ∷ [];
  outs = record { name = codes "D1"; term = Col 0 ty.Text } ∷ record { name = codes "COUNT(*)"; term = Agg' 0 } ∷ record { name = codes "SUM(M)"; term = Agg' 1 } ∷ [];
  having = cond.True;
  order = [];
  limit = None;
}

abbrev pub served : Served Ask
served = record {
  cube = small;
  shown = block.Cube (codes "FIXED") 2 1 1;
  cuboids = 1;
  query_of = λ text. Ok by_d1;
  no_table = NotLoaded;
}

abbrev fact : ℕ → List ℕ → List ℕ → ℤ → List Val
fact day first second number = Int (pos day) ∷ Text first ∷ Text second ∷ Int number ∷ []

-- two rows in January 2012 and one in February
abbrev pub facts : Rows
facts = fact 734868 (codes "a") (codes "x") (pos 1) ∷ fact 734869 (codes "b") (codes "x") (pos 2) ∷ fact 734899 (codes "a") (codes "y") (pos 3) ∷ []

abbrev pub january : Interval
january = record { start = 734868; end = 734899 }

abbrev at : ℕ → Verb → Line
at number said = record { number = number; verb = said }

abbrev pub inputs : Inputs
inputs = record {
  workers = 1;
  ready = [];
  script =
      at 1 (verb.Descriptor (codes "fixed")) ∷ at 2 (verb.Load (codes "F") (codes "f.csv")) ∷ at 3 (verb.Build january) ∷ at 4 (verb.AwaitJob 1)
      ∷ at 5 (verb.Resume 1) ∷ at 6 (verb.AwaitJob 1) ∷ at 7 (verb.Query 0 (codes "select d1, count(*), sum(m) from f group by d1")) ∷ [];
  rows = λ line. facts;
}

-- a build whose second step is killed, a resume, and a query over the segment
abbrev pub before_answer : List Event
before_answer =
    Command 1 ∷ Command 2 ∷ Command 3 ∷ Claim 1 1 ∷ StepEnd 1 1 Done ∷ Claim 1 2 ∷ StepEnd 1 2 Killed ∷ Command 4 ∷ Command 5 ∷ Claim 1 3
    ∷ StepEnd 1 3 Done ∷ Claim 1 4 ∷ StepEnd 1 4 Done ∷ Command 6 ∷ Command 7 ∷ QueryTake 7 ∷ []

abbrev pub history : List Event
history =
    Command 1 ∷ Command 2 ∷ Command 3 ∷ Claim 1 1 ∷ StepEnd 1 1 Done ∷ Claim 1 2 ∷ StepEnd 1 2 Killed ∷ Command 4 ∷ Command 5 ∷ Claim 1 3
    ∷ StepEnd 1 3 Done ∷ Claim 1 4 ∷ StepEnd 1 4 Done ∷ Command 6 ∷ Command 7 ∷ QueryTake 7 ∷ QueryEnd 7 (Answered 1) ∷ []

-- the blocks that are told before the end of the query
abbrev pub first_blocks : List (ℕ × Block)
first_blocks =
    (1, block.Cube (codes "FIXED") 2 1 1) ∷ (2, block.Loaded (codes "F") 3) ∷ (3, block.Job 1 Build january) ∷ (4, block.State 1 Error)
    ∷ (5, block.State 1 Pending) ∷ (6, block.State 1 Finished) ∷ []

-- the rows of the segment, and the answer over them
abbrev pub rows_seen : Rows
rows_seen = (Text (codes "a") ∷ Text (codes "x") ∷ Int (pos 1) ∷ []) ∷ (Text (codes "b") ∷ Text (codes "x") ∷ Int (pos 2) ∷ []) ∷ []

abbrev pub table : AnswerTable
table = record {
  names = codes "D1" ∷ codes "COUNT(*)" ∷ codes "SUM(M)" ∷ [];
  rows = (out.Text (codes "a") ∷ Whole (pos 1) ∷ Whole (pos 1) ∷ []) ∷ (out.Text (codes "b") ∷ Whole (pos 1) ∷ Whole (pos 2) ∷ []) ∷ [];
}

abbrev pub answer : Block
answer = block.Answer table

-- the text of blocks
abbrev pub text_of : List (ℕ × Block) → List ℕ
text_of blocks = flat_map (λ t. block_text t.0 t.1) blocks
