-- The base cuboid of a cube's flat rows, from those of the pieces of its parts.
use Rattle.std.proofs.Common.{◌≡◌, ◌++◌, List, Ok, Err, OnOk, Result, cond, subst, sym}
use Rattle.std.specs.Prelude.{is_ok}
use Rattle.cell_store.specs.Cells.{CellRows}
use Rattle.cube_desc.specs.Cube.{Cube}
use Rattle.cube_val.specs.declared.val.Val.{Val}
use Rattle.plain_answer.specs.declared.ask.Agg.{Agg}
use Rattle.layer_builder.specs.Base.{IsBase}
use Rattle.layer_builder.specs.Pieces.{AreBases}
use Rattle.layer_builder.proofs.PieceFacts.{bases_append}
use Rattle.step_compute.specs.Columns.{kept_aggs}
use Rattle.step_compute.specs.Values.{base_value}

-- the pieces of some rows more
pub pieces_added : {E : Type 0} (r : Result (Unit {0}) E) (aggs : List Agg) (dicts rows : List (List Val)) (old made new : List CellRows) → new ≡ cond (is_ok r) (old ++ made) old → AreBases aggs dicts rows made
    → OnOk r ((done : List (List Val)) → AreBases aggs dicts done old → AreBases aggs dicts (done ++ rows) new)
pieces_added (Ok u) aggs dicts rows old made new e pieces = λ done before. subst (AreBases aggs dicts (done ++ rows)) (sym e) (bases_append aggs dicts done rows old made before pieces)
pieces_added (Err x) aggs dicts rows old made new e pieces = tt

-- a table that is the base cuboid is the value of the step
pub base_is : (c : Cube) (flat dicts : List (List Val)) (table : CellRows) → IsBase (kept_aggs c) dicts flat table → table ≡ base_value c flat dicts
base_is c flat dicts table h = λ i. record { mask = h.mask i; forms = h.forms i; rows = h.rows i }
