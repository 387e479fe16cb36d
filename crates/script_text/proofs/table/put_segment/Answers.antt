use Rattle.script_text.proofs.table.put_segment.Goals as goal

pub returns : goal.returns
returns c =
    rw (
      c.as_slice.ensures,
      c.text-start.ensures.value,
      c.start.ensures.value,
      c.as_slice-2.ensures,
      c.text-end.ensures.value,
      c.end.ensures.value,
      c.as_bytes.ensures.value,
      c.in_ok-job.ensures.ok,
      c.as_bytes-2.ensures.value,
      c.in_ok-cuboids.ensures.ok,
    )
    at c.put_line.ensures
