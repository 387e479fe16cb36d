use Rattle.std.proofs.Common.{◌≡◌, [], ◌∙◌, ap, sym, Ok, Some, inl, inr}
use Rattle.csv.specs.Records.{fields_of}
use Rattle.table_reader.proofs.table.read_header.Goals as goal

pub returns-in-Ok-false-clause-fault : goal.returns-in-Ok-false-clause-fault
returns-in-Ok-false-clause-fault c f same bytes has =
    let is : c.in_row.result ≡ f = cc same in
    inl (c.read_next.ensures.last (c.in-Ok-false.is ∙ ap Ok c.in-Ok-false.field-0-test) bytes [] has, sym is ∙ c.in_row.ensures)

pub returns-in-None-clause-ok : goal.returns-in-None-clause-ok
returns-in-None-clause-ok c = λ bytes has. c.read_next.ensures.more (c.in-Ok-true.is ∙ ap Ok c.in-Ok-true.field-0-test) bytes [] has

pub returns-in-Some-clause-fault : goal.returns-in-Some-clause-fault
returns-in-Some-clause-fault c f same bytes has =
    let read = c.read_next.ensures.more (c.in-Ok-true.is ∙ ap Ok c.in-Ok-true.field-0-test) bytes [] has in
    let is : c.in-Some.fault ≡ f = cc same in
    inr (inl record {
      header = fields_of c.read_next.new.found;
      first = (c.read_next.new.reader.state, read.left, read.reached);
      at_fault = sym (rw c.as_slice.ensures at c.header_fault.ensures) ∙ c.in-Some.is ∙ ap Some is;
    })
