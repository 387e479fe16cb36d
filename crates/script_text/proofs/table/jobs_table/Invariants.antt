use Rattle.std.proofs.Common.{map, take}
use Rattle.script_text.specs.Blocks.{job_fields, jobs_header, table_text}
use Rattle.script_text.specs.Writing.{HasWritten}
use Rattle.script_text.proofs.table.jobs_table.Given as goal

abbrev pub invariant-loop-job : goal.invariant-loop-job
invariant-loop-job l = HasWritten (table_text jobs_header (map job_fields (take l.job-index l.jobs))) l.writer
