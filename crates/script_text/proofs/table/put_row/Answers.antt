use Rattle.script_text.proofs.table.put_row.Goals as goal

pub returns : goal.returns
returns c =
    rw (c.deref-2.ensures.value, c.in_ok-fields.ensures, c.deref.ensures.value, c.in_ok-texts.ensures, c.as_slice.ensures) at c.put_line.ensures
