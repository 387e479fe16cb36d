-- What bytes mean: a cube, or the first fault.
use Rattle.std.specs.Prelude.{ℕ, List, [], ◌++◌, Option, Some, None, Result, Ok, Err}
use Rattle.std.specs.Result.{result_ok}
use Rattle.descriptor_json.specs.Bytes.{Shaped, no_json, wrong_at, shaped, shape_of}
use Rattle.descriptor_json.specs.declared.raw.RawDesc.{RawDesc}
use Rattle.desc_checks.specs.Firsts.{first}
use Rattle.desc_checks.specs.Faults.{each, faults}
use Rattle.desc_checks.specs.declared.kind.DescFault.{DescFault}
use Rattle.desc_checks.specs.declared.kind.DescKind.TheVariants as kind
use Rattle.cube_desc.specs.Cube.{Cube}
use Rattle.cube_desc.specs.Groups.{bad_groups, too_many_cuboids}
use Rattle.cube_desc.specs.Resolve.{cube_of}

-- every fault of a descriptor whose shape is right, in the order of the checks, and in each in the order of the walk
abbrev pub all_faults : RawDesc → List DescFault
all_faults r = faults r ++ each kind.BadGroup (bad_groups r) ++ each kind.TooManyCuboids (too_many_cuboids r)

abbrev pub judged : RawDesc → Option DescFault → Result Cube DescFault
judged r None = Ok (cube_of r)
judged r (Some f) = Err f

abbrev pub described : Shaped → Result Cube DescFault
described no_json = Err (record { kind = kind.NotJson; place = [] })
described (wrong_at p) = Err (record { kind = kind.Shape; place = p })
described (shaped r) = judged r (first (all_faults r))

-- the cube that bytes describe, or their fault
abbrev pub meaning : List ℕ → Result Cube DescFault
meaning bytes = described (shape_of bytes)

-- the cube that bytes describe, or none
abbrev pub desc_of : List ℕ → Option Cube
desc_of bytes = result_ok (meaning bytes)

-- a cube with the bytes that describe it
pub record Descriptor : Type 0 where
  pub cube : Cube
  pub source : List ℕ
