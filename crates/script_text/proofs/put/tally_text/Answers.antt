use Rattle.script_text.proofs.put.tally_text.Goals as goal

pub returns : goal.returns
returns c =
    rw (
      c.as_slice.ensures,
      c.as_slice-2.ensures,
      c.as_slice-3.ensures,
      c.as_slice-4.ensures,
      c.as_bytes.ensures.value,
      c.in_ok-finished.ensures.ok,
      c.as_bytes-2.ensures.value,
      c.in_ok-error.ensures.ok,
      c.as_bytes-3.ensures.value,
      c.in_ok-stopped.ensures.ok,
      c.as_bytes-4.ensures.value,
      c.in_ok-discarded.ensures.ok,
    )
    at c.joined.ensures
