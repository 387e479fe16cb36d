-- The texts of blocks and of the end line.
use Rattle.std.specs.Prelude.{ℕ, List, [], ◌∷◌, ◌++◌, codes, length, map}
use Rattle.std.specs.Fmt.{decimal, signed_decimal}
use Rattle.std.specs.List.{concat, flat_map}
use Rattle.csv.specs.Writing.{default_writer, row_text}
use Rattle.cube_val.specs.Numbers.{decimal_text}
use Rattle.cube_val.specs.Texts.{null_text}
use Rattle.job_machine.specs.Texts.{kind_text, state_text}
use Rattle.plain_answer.specs.declared.answer.OutVal.{OutVal}
use Rattle.plain_answer.specs.declared.answer.OutVal.TheVariants.{Null, Whole, Units, Text}
use Rattle.range_list.specs.Ranges.{Interval}
use Rattle.run_history.specs.declared.refused.Refused.{Refused}
use Rattle.run_history.specs.declared.refused.Refused.TheVariants.{NotLoaded, TooManySegments, OverlapsSegment, OverlapsJob, NoSuchSegment, NotOnBounds, OneSegment, Hole, LookupsDiffer, NoSuchJob, JobEnded, WrongState, NoSuchTable, Sql, Bind}
use Rattle.query_faults.specs.Texts.{bind_kind_text, sql_kind_text}
use Rattle.calendar.specs.DayTexts.{day_text}
use Rattle.script_text.specs.declared.block.Block.{Block}
use Rattle.script_text.specs.declared.block.Block.TheVariants as block
use Rattle.script_text.specs.declared.block.JobLine.{JobLine}
use Rattle.script_text.specs.declared.block.SegmentLine.{SegmentLine}
use Rattle.script_text.specs.declared.block.Tally.{Tally}

abbrev pub line_feed : ℕ
line_feed = 10

-- the start and the end of a range, parted by a space
abbrev pub range_text : Interval → List ℕ
range_text range = concat (day_text range.start ∷ codes " " ∷ day_text range.end ∷ [])

-- how many jobs rest in each state
abbrev pub tally_text : Tally → List ℕ
tally_text tally =
    concat (
    decimal tally.finished ∷ codes " finished, " ∷ decimal tally.error ∷ codes " in error, " ∷ decimal tally.stopped ∷ codes " stopped, "
    ∷ decimal tally.discarded ∷ codes " discarded" ∷ []
    )

-- why a command was refused
abbrev pub refusal_text : Refused → List ℕ
refusal_text (NotLoaded table) = codes "NotLoaded " ++ table
refusal_text TooManySegments = codes "TooManySegments"
refusal_text (OverlapsSegment range) = codes "OverlapsSegment " ++ range_text range
refusal_text (OverlapsJob job) = codes "OverlapsJob " ++ decimal job
refusal_text NoSuchSegment = codes "NoSuchSegment"
refusal_text NotOnBounds = codes "NotOnBounds"
refusal_text OneSegment = codes "OneSegment"
refusal_text (Hole day) = codes "Hole " ++ day_text day
refusal_text (LookupsDiffer table) = codes "LookupsDiffer " ++ table
refusal_text (NoSuchJob job) = codes "NoSuchJob " ++ decimal job
refusal_text (JobEnded state) = codes "JobEnded " ++ state_text state
refusal_text (WrongState state) = codes "WrongState " ++ state_text state
refusal_text (NoSuchTable name) = codes "NoSuchTable " ++ name
refusal_text (Sql fault) = codes "Sql " ++ sql_kind_text fault.kind ++ codes " " ++ decimal fault.place
refusal_text (Bind fault) = codes "Bind " ++ bind_kind_text fault.kind ++ codes " " ++ decimal fault.place

-- ---- tables

-- a line as `csv` writes a record with its default settings
abbrev pub csv_line : List (List ℕ) → List ℕ
csv_line fields = row_text default_writer fields

abbrev pub jobs_header : List (List ℕ)
jobs_header = codes "job" ∷ codes "kind" ∷ codes "start" ∷ codes "end" ∷ codes "state" ∷ codes "done" ∷ codes "steps" ∷ []

abbrev pub job_fields : JobLine → List (List ℕ)
job_fields job =
    decimal job.id ∷ kind_text job.kind ∷ day_text job.range.start ∷ day_text job.range.end ∷ state_text job.state ∷ decimal job.done
    ∷ decimal job.steps ∷ []

abbrev pub segments_header : List (List ℕ)
segments_header = codes "start" ∷ codes "end" ∷ codes "job" ∷ codes "cuboids" ∷ []

abbrev pub segment_fields : SegmentLine → List (List ℕ)
segment_fields segment = day_text segment.range.start ∷ day_text segment.range.end ∷ decimal segment.job ∷ decimal segment.cuboids ∷ []

-- a value of an answer
abbrev pub out_text : OutVal → List ℕ
out_text Null = null_text
out_text (Whole number) = signed_decimal number
out_text (Units units) = decimal_text units
out_text (Text text) = text

-- the header and the lines of a table
abbrev pub table_text : List (List ℕ) → List (List (List ℕ)) → List ℕ
table_text header rows = csv_line header ++ flat_map csv_line rows

-- the lines of a block after its first one
abbrev pub lines_after : Block → List ℕ
lines_after (block.Jobs jobs) = table_text jobs_header (map job_fields jobs)
lines_after (block.Segments segments) = table_text segments_header (map segment_fields segments)
lines_after (block.Answer table) = table_text table.names (map (λ row. map out_text row) table.rows)
lines_after _ = []

-- ---- blocks

-- what a block's first line says
abbrev pub said : Block → List ℕ
said (block.Cube name dimensions measures cuboids) =
    concat (
    codes "cube " ∷ name ∷ codes ": " ∷ decimal dimensions ∷ codes " dimensions, " ∷ decimal measures ∷ codes " measures, "
    ∷ decimal cuboids ∷ codes " cuboids" ∷ []
    )
said (block.Loaded table rows) = concat (codes "loaded " ∷ table ∷ codes ": " ∷ decimal rows ∷ codes " rows" ∷ [])
said (block.Job id kind range) = concat (codes "job " ∷ decimal id ∷ codes ": " ∷ kind_text kind ∷ codes " " ∷ range_text range ∷ [])
said (block.Dropped range) = codes "dropped " ++ range_text range
said (block.State id state) = concat (codes "job " ∷ decimal id ∷ codes ": " ∷ state_text state ∷ [])
said (block.JobsAtRest tally) = codes "jobs at rest: " ++ tally_text tally
said (block.QueriesAtRest count) = codes "queries at rest: " ++ decimal count
said (block.Jobs jobs) = codes "jobs: " ++ decimal (length jobs)
said (block.Segments segments) = codes "segments: " ++ decimal (length segments)
said (block.Answer table) = concat (codes "query: " ∷ decimal (length table.rows) ∷ codes " rows" ∷ [])
said block.OutOfMemory = codes "query: out of memory"
said (block.Refused refused) = codes "refused: " ++ refusal_text refused

-- the text of the block of a line
abbrev pub block_text : ℕ → Block → List ℕ
block_text line block = concat (codes "[" ∷ decimal line ∷ codes "] " ∷ said block ∷ (line_feed ∷ []) ∷ lines_after block ∷ [])

-- the end line, with the number of ready segments
abbrev pub end_text : Tally → ℕ → List ℕ
end_text tally segments = concat (codes "end: " ∷ tally_text tally ∷ codes "; " ∷ decimal segments ∷ codes " segments" ∷ (line_feed ∷ []) ∷ [])
