-- What files in memory keep.
use Rattle.std.specs.Prelude.{ℕ, List, Bool, Option, Result, Ok, Err}
use Rattle.std.specs.Map.{lookup}
use Rattle.std.specs.Str.{bytes_eq}
use Rattle.std.specs.String.{string_bytes}
use Rattle.outside.specs.Counts.{raised}
use Rattle.outside.specs.Numbering.{Numbering}
use Rattle.outside.specs.declared.files.Entry.{Entry}
use Rattle.outside.specs.declared.files.FileFault.{FileFault}
use Rattle.outside.specs.declared.files.FileFault.TheVariants.{Memory, TooLong, Failed}

-- the files, each a path with its bytes, the calls, and the counts
pub record FilesState : Type 0 where
  pub files : List (List ℕ × List ℕ)
  pub calls : Numbering
  pub faults : ℕ
  pub write_faults : ℕ
  pub seen : ℕ

-- the path and the bytes of an entry
abbrev pub file_of : Entry → List ℕ × List ℕ
file_of e = (string_bytes e.path, e.bytes.items)

-- whether an entry has the path
abbrev pub has_path : List ℕ → Entry → Bool
has_path path e = bytes_eq (string_bytes e.path) path

-- the bytes of the first file with the path
abbrev pub bytes_of : List (List ℕ × List ℕ) → List ℕ → Option (List ℕ)
bytes_of files path = lookup (λ p. bytes_eq p path) files

-- a count of faults after an answer: only a failed call raises it
abbrev pub faults_after : {A : Type 0} → Result A FileFault → ℕ → ℕ
faults_after (Ok answer) before = before
faults_after (Err Memory) before = before
faults_after (Err TooLong) before = before
faults_after (Err Failed) before = raised before
