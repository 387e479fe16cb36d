-- What the answer of a reader in the code tells of a reading.
use Rattle.std.specs.Prelude.{◌≡◌, ⊤, Result, Ok, Err}
use Rattle.descriptor_json.specs.Readings.{Reading}
use Rattle.descriptor_json.specs.declared.reading.Stop.{Stop}
use Rattle.descriptor_json.specs.declared.reading.Stop.TheVariants.{At, Memory}

-- the value that is read, or the first place that is missing or wrong; for want of memory nothing
abbrev pub Tells : {A : Type 0} → Result A Stop → Reading A → Type 0
Tells (Ok a) r = r ≡ Ok a
Tells (Err (At p)) r = r ≡ Err p
Tells (Err Memory) r = ⊤
