use Rattle.script_text.proofs.put.job_said.Goals as goal

pub returns : goal.returns
returns c =
    rw (
      c.as_slice.ensures,
      c.as_slice-2.ensures,
      c.as_slice-3.ensures,
      c.as_bytes.ensures.value,
      c.in_ok-id.ensures.ok,
      c.as_bytes-2.ensures.value,
      c.as_str.ensures,
      c.as_slice-4.ensures.value,
      c.in_ok-range.ensures,
    )
    at c.joined.ensures
