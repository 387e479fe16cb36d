-- What bytes are read as.
use Rattle.std.specs.Prelude.{ℕ, List, [], Option, Some, None, Ok, Err, if◌then◌else◌}
use Rattle.std.specs.Str.{is_utf8}
use Rattle.serde_json.specs.Data.{Data}
use Rattle.serde_json.specs.Read.{read}
use Rattle.descriptor_json.specs.Places.{JsonPointer}
use Rattle.descriptor_json.specs.Readings.{Reading}
use Rattle.descriptor_json.specs.Walk.{desc_at}
use Rattle.descriptor_json.specs.declared.raw.RawDesc.{RawDesc}

-- the JSON value that bytes are, or none
unfoldable pub json_of : List ℕ → Option Data
json_of bytes = if is_utf8 bytes then read bytes else None

-- what bytes are: no JSON at all, JSON with a first place that is missing or wrong, or the texts of a descriptor
pub data Shaped : Type 0 where
  no_json : Shaped
  wrong_at : JsonPointer → Shaped
  shaped : RawDesc → Shaped

abbrev pub shaped_as : Reading RawDesc → Shaped
shaped_as (Ok raw) = shaped raw
shaped_as (Err p) = wrong_at p

abbrev pub shape_of_json : Option Data → Shaped
shape_of_json None = no_json
shape_of_json (Some d) = shaped_as (desc_at [] d)

abbrev pub shape_of : List ℕ → Shaped
shape_of bytes = shape_of_json (json_of bytes)
