use Rattle.cubes_plain.proofs.fold_command.fold_output.Goals as goal

pub returns-clause-bad : goal.returns-clause-bad
returns-clause-bad g c f same =
    record { bytes = c.in-Ok.bytes.items; stands = c.in-Ok.ensures.bytes; short = c.in-Ok.ensures.limited; holds = c.text_of_bytes.ensures.bad f same }
