-- The form of the table file of a table of the cube.
use Rattle.std.specs.Prelude.{ℕ, zero, suc, List, [], map, Option, Some, None, Bool, false, ◌==◌, length, slice_get}
use Rattle.std.specs.List.{list_any, range_with_len}
use Rattle.cube_val.specs.declared.form.ColDesc.{ColDesc}
use Rattle.cube_val.specs.declared.form.JoinStep.{JoinStep}
use Rattle.cube_val.specs.declared.form.JoinPlan.{JoinPlan}
use Rattle.cube_val.specs.declared.form.TableForm.{TableForm}
use Rattle.cube_desc.specs.declared.desc.TableDesc.{TableDesc}
use Rattle.cube_desc.specs.Cube.{Cube}

abbrev pub is_of : ℕ → Option ℕ → Bool
is_of i None = false
is_of i (Some n) = n == i

-- a measure is of the fact table's column
abbrev pub is_measured : Cube → ℕ → Bool
is_measured c i = list_any (λ m. is_of i m.column) c.measures

-- the columns of the fact table in which no null may stand: those that a measure is of; in a lookup there are none
abbrev pub no_null_at : Cube → ℕ → ℕ → Bool
no_null_at c zero i = is_measured c i
no_null_at c (suc t) i = false

abbrev pub cols_of : Option TableDesc → List ColDesc
cols_of None = []
cols_of (Some t) = t.cols

abbrev pub primary_of : Option JoinStep → List ℕ
primary_of None = []
primary_of (Some j) = j.primary

-- the key: none of the fact table, and the primary key of a lookup
abbrev pub key_of : JoinPlan → ℕ → List ℕ
key_of p zero = []
key_of p (suc t) = primary_of (slice_get p.joins t)

abbrev pub form_of : Cube → ℕ → TableForm
form_of c t =
    let cols = cols_of (slice_get c.tables t) in
    record { cols = cols; no_null = map (no_null_at c t) (range_with_len 0 (length cols)); key = key_of c.plan t }
