use Rattle.std.proofs.Common.{◌≡◌, map, take}
use Rattle.run_state.specs.States.{submitted_of}
use Rattle.run_transcript.specs.Entries.{job_line}
use Rattle.job_board.specs.Ledger.{rows_seen}
use Rattle.coordinator.proofs.listing.job_lines.Given as goal

abbrev pub invariant-loop-entry : goal.invariant-loop-entry
invariant-loop-entry l = l.lines.items ≡ map job_line (map (submitted_of rows_seen) (take l.entry-index l.jobs))
