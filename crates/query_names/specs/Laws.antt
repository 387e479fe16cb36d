-- What a query may ask is kept.
use Rattle.std.specs.Prelude.{Contains, IsTrue, Some}
use Rattle.cube_val.specs.declared.form.WideCol.{WideCol}
use Rattle.measure_laws.specs.declared.measure.MeasureForm.{MeasureForm}
use Rattle.cube_desc.specs.Cube.{Cube}
use Rattle.cube_desc.specs.Kept.{kept_behind}
use Rattle.cube_desc.specs.Sound.{IsSound}
use Rattle.query_names.specs.Uses.{has_measure}

-- the cuboids of a cube keep each measure of a column that a query finds in it
abbrev pub AskedIsKept : Type 0
AskedIsKept =
    (c : Cube) (f : MeasureForm) (w : WideCol) → IsSound c → IsTrue (has_measure c f (Some w))
    → Contains (kept_behind c) (record { form = f; column = Some w.column })
