use Rattle.std.proofs.Common.{◌≡◌, ◌≤◌, All, take}
use Rattle.std.specs.List.{AllZip}
use Rattle.run_inputs.specs.Inputs.{HasFittingRows, IsLoadedAt, loads_of}
use Rattle.run_inputs.proofs.inputs.read_tables.Given as goal

abbrev pub invariant-loop-line : goal.invariant-loop-line
invariant-loop-line g l =
    AllZip (IsLoadedAt (g.F.Files.contents l.initial.files)) (loads_of (take l.line-index l.script)) l.tables
    × All HasFittingRows l.tables
    × (g.F.Files.contents l.files ≡ g.F.Files.contents l.initial.files)
    × (g.F.Files.faults l.initial.files ≤ g.F.Files.faults l.files)
    × (g.F.Files.write_faults l.files ≡ g.F.Files.write_faults l.initial.files)
