use Rattle.std.proofs.Common.{◌≡◌, ◌<◌, ℕ, None, map, take}
use Rattle.script_reader.specs.Lines.{without_last}
use Rattle.script_files.specs.Reading.{HasRead, IsSmall}
use Rattle.script_files.specs.Scripts.{fault_at}
use Rattle.script_files.proofs.script.read_parts.Given as goal

abbrev pub invariant-loop-part : goal.invariant-loop-part
invariant-loop-part l =
    HasRead (take l.part-index (map (λ part. without_last 13 part.now) l.parts)) l.reader
    × IsSmall l.reader.counts
    × ((k : ℕ) → k < l.part-index → fault_at (map (λ part. without_last 13 part.now) l.parts) k ≡ None)
