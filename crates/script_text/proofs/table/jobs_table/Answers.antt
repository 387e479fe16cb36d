use Rattle.std.proofs.Common.{◌≡◌, [], arith, map, take}
use Rattle.std.proofs.lemmas.List.{take_all}
use Rattle.script_text.specs.Blocks.{job_fields, jobs_header, table_text}
use Rattle.script_text.proofs.Writers.{rows_more, written_all, written_header}
use Rattle.script_text.proofs.table.jobs_table.Goals as goal

pub loop-job-init : goal.loop-job-init
loop-job-init c =
    let h = rw (c.as_slice.ensures, c.as_slice-2.ensures, c.as_slice-3.ensures, c.as_slice-4.ensures, c.as_slice-5.ensures, c.as_slice-6.ensures, c.as_slice-7.ensures)
    at (c.in_ok-put_line.ensures [] c.writer_of-writer.ensures) in
    written_header jobs_header c.put_line.new.writer h

pub loop-job-preserved : goal.loop-job-preserved
loop-job-preserved c =
    rw (← rows_more jobs_header job_fields c.args.jobs.now c.loop-job.job-index c.job-item.result c.job-item.is c.loop-job-test.true)
    (c.in_ok-put_job.ensures (table_text jobs_header (map job_fields (take c.loop-job.job-index c.args.jobs.now))) c.loop-job.invariant)

pub returns : goal.returns
returns c =
    let all : take c.loop-job.job-index c.args.jobs.now ≡ c.args.jobs.now = take_all _ _ (omega arith) in
    written_all c.text_of.result c.loop-job.writer (table_text jobs_header (map job_fields c.args.jobs.now)) c.text_of.ensures (rw all at c.loop-job.invariant)
