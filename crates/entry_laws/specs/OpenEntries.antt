-- The open entries of a line.
use Rattle.std.specs.Prelude.{◌==◌, ℕ, Bool, false, List, count_by}
use Rattle.run_transcript.specs.Entries.{Entry}
use Rattle.run_transcript.specs.Entries.Entry.{Told, Open}

abbrev pub is_open_at : ℕ → Entry → Bool
is_open_at line (Told other block) = false
is_open_at line (Open other) = other == line

-- how many entries of this line are open
abbrev pub open_entries : ℕ → List Entry → ℕ
open_entries line entries = count_by (is_open_at line) entries
