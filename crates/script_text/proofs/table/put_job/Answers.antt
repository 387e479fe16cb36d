use Rattle.script_text.proofs.table.put_job.Goals as goal

pub returns : goal.returns
returns c =
    rw (
      c.as_bytes.ensures.value,
      c.in_ok-id.ensures.ok,
      c.as_bytes-2.ensures.value,
      c.as_str.ensures,
      c.as_slice.ensures,
      c.text-start.ensures.value,
      c.start.ensures.value,
      c.as_slice-2.ensures,
      c.text-end.ensures.value,
      c.end.ensures.value,
      c.as_bytes-3.ensures.value,
      c.as_str-2.ensures,
      c.as_bytes-4.ensures.value,
      c.in_ok-done.ensures.ok,
      c.as_bytes-5.ensures.value,
      c.in_ok-steps.ensures.ok,
    )
    at c.put_line.ensures
