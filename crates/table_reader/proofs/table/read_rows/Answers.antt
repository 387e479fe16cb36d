use Rattle.std.proofs.Common.{◌≡◌, ap, Err}
use Rattle.std.proofs.lemmas.Result.{IfOk-weaker}
use Rattle.csv.specs.Records.{fields_of}
use Rattle.table_reader.specs.declared.fault.TableRefusal.TheVariants.{Fault}
use Rattle.table_reader.proofs.ColumnFacts.{length-columns_in}
use Rattle.table_reader.proofs.TableFacts.{rows_within}
use Rattle.table_reader.proofs.table.read_rows.Goals as goal

pub read_body-requires : goal.read_body-requires
read_body-requires c =
    let header = fields_of c.read_header.new.found in
    let wide = length-columns_in header c.args.form.now.cols c.args.form.now.no_null c.requires.no_null in
    rw (c.as_slice-2.ensures, c.as_slice.ensures.value, c.in-Ok-columns_of.ensures, wide) c.requires.key

pub judge-requires : goal.judge-requires
judge-requires c =
    let header = fields_of c.read_header.new.found in
    let read = c.in-Ok.ensures.ok c.args.bytes.now c.reader_of-reader.ensures in
    let body = c.in-Ok-read_body.ensures.body c.args.bytes.now header read in
    let b = rw (c.as_slice.ensures.value, c.in-Ok-columns_of.ensures, c.len-width.ensures) at body in
    record {
      within = rows_within c.args.form.now header b.records c.in-Ok-read_body.body.rows.items b.written c.requires.no_null c.requires.key;
      few = b.few;
      digests = rw c.as_slice-2.ensures at c.in-Ok-read_body.ensures.digests;
    }

pub returns-in-Err-clause-fault : goal.returns-in-Err-clause-fault
returns-in-Err-clause-fault c f same =
    let is : c.in-Err.refusal ≡ Fault f = cc same in
    c.in-Err.ensures.fault f (ap Err is) c.args.bytes.now c.reader_of-reader.ensures

pub returns-clause-ok : goal.returns-clause-ok
returns-clause-ok c =
    let header = fields_of c.read_header.new.found in
    let read = c.in-Ok.ensures.ok c.args.bytes.now c.reader_of-reader.ensures in
    let body = c.in-Ok-read_body.ensures.body c.args.bytes.now header read in
    let b = rw (c.as_slice.ensures.value, c.in-Ok-columns_of.ensures, c.len-width.ensures) at body in
    IfOk-weaker c.judge.result _ _ (λ rows all. all c.args.bytes.now header c.in-Ok.ensures.named b) c.judge.ensures.ok

pub returns-clause-fault : goal.returns-clause-fault
returns-clause-fault c f same =
    let header = fields_of c.read_header.new.found in
    let read = c.in-Ok.ensures.ok c.args.bytes.now c.reader_of-reader.ensures in
    let body = c.in-Ok-read_body.ensures.body c.args.bytes.now header read in
    let b = rw (c.as_slice.ensures.value, c.in-Ok-columns_of.ensures, c.len-width.ensures) at body in
    c.judge.ensures.fault f same c.args.bytes.now header c.in-Ok.ensures.named b
