-- The bytes of the first entry with a path.
use Rattle.std.proofs.Common.{◌≡◌, ℕ, List, [], ◌∷◌, map, Bool, true, false, cond, refl, Some}
use Rattle.std.specs.List.{find}
use Rattle.std.specs.Option.{option_map}
use Rattle.std.specs.Str.{bytes_eq}
use Rattle.std.specs.String.{string_bytes}
use Rattle.outside.specs.declared.files.Entry.{Entry}
use Rattle.outside.specs.MemoryFiles.{bytes_of, file_of}

pub find_bytes_of : (es : List Entry) (path : List ℕ) → option_map (λ e. e.bytes.items) (find (λ e. bytes_eq (string_bytes e.path) path) es) ≡ bytes_of (map file_of es) path
find_bytes_of [] path = refl
find_bytes_of (e ∷ es) path = by (bytes_eq (string_bytes e.path) path) (find_bytes_of es path)
  where
    by : (b : Bool) → option_map (λ e. e.bytes.items) (find (λ e. bytes_eq (string_bytes e.path) path) es) ≡ bytes_of (map file_of es) path
        → option_map (λ e. e.bytes.items) (cond b (Some e) (find (λ e. bytes_eq (string_bytes e.path) path) es)) ≡ cond b (Some e.bytes.items) (bytes_of (map file_of es) path)
    by true h = refl
    by false h = h
