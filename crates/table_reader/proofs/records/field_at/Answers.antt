use Rattle.std.proofs.Common.{sym}
use Rattle.csv.specs.Records.{fields_of}
use Rattle.table_reader.proofs.RecordFacts.{field_at-index, no_field_at-index}
use Rattle.table_reader.proofs.records.field_at.Goals as goal

pub returns-in-Some : goal.returns-in-Some
returns-in-Some c = sym (field_at-index (fields_of c.args.found.now) c.args.place c.in-Some.field.now (sym c.in-Some.ensures.value))

pub returns-in-None : goal.returns-in-None
returns-in-None c = sym (no_field_at-index (fields_of c.args.found.now) c.args.place (sym (rw c.in-None.is at c.get.ensures.value)))
