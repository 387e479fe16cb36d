use Rattle.script_text.proofs.put.cube_said.Goals as goal

pub returns : goal.returns
returns c =
    rw (
      c.as_slice.ensures,
      c.as_slice-2.ensures,
      c.as_slice-3.ensures,
      c.as_slice-4.ensures,
      c.as_slice-5.ensures,
      c.as_bytes.ensures.value,
      c.in_ok-dimensions.ensures.ok,
      c.as_bytes-2.ensures.value,
      c.in_ok-measures.ensures.ok,
      c.as_bytes-3.ensures.value,
      c.in_ok-cuboids.ensures.ok,
    )
    at c.joined.ensures
