use Rattle.std.proofs.Common.{◌≡◌, take}
use Rattle.std.specs.Prelude.{map}
use Rattle.step_files.specs.Cubes.{dict_column}
use Rattle.step_files.proofs.cube.dict_columns.Given as goal

abbrev pub invariant-loop-place : goal.invariant-loop-place
invariant-loop-place l = l.columns.items ≡ map (dict_column l.flat) (take l.place-index l.places)
