-- What a sink was given, where it tells it.
use Rattle.std.specs.Prelude.{◌≡◌, ℕ, List, take, Option}
use Rattle.std.specs.Io.KnownBytes.{append_known}

-- a part of the bytes from the front was appended to what was written, where that is told
abbrev pub AppendsPart : Option (List ℕ) → Option (List ℕ) → List ℕ → Type 0
AppendsPart old new bytes = (n : ℕ) × (new ≡ append_known old (take n bytes))
