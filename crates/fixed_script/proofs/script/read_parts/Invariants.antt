use Rattle.std.proofs.Common.{◌≡◌, ◌<◌, ℕ, false, map, take}
use Rattle.script_reader.specs.Lines.{without_last}
use Rattle.fixed_script.specs.Reading.{HasRead, IsSmall}
use Rattle.fixed_script.specs.Scripts.{is_bad_at}
use Rattle.fixed_script.proofs.script.read_parts.Given as goal

abbrev pub invariant-loop-part : goal.invariant-loop-part
invariant-loop-part l =
    HasRead (take l.part-index (map (λ part. without_last 13 part.now) l.parts)) l.reader
    × IsSmall l.reader.counts
    × ((k : ℕ) → k < l.part-index → is_bad_at (map (λ part. without_last 13 part.now) l.parts) k ≡ false)
