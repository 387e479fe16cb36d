-- The types of columns.
use Rattle.std.specs.Prelude.{ℕ, List, [], Option, Some, None, codes, Bool, ◌||◌, bytes_eq}
use Rattle.std.specs.List.{flat_map, find}
use Rattle.descriptor_json.specs.Places.{JsonPointer}
use Rattle.descriptor_json.specs.declared.raw.RawColumn.{RawColumn}
use Rattle.descriptor_json.specs.declared.raw.RawTable.{RawTable}
use Rattle.descriptor_json.specs.declared.raw.RawDesc.{RawDesc}
use Rattle.desc_checks.specs.Firsts.{unless}

abbrev pub is_number_type : List ℕ → Bool
is_number_type s = bytes_eq s (codes "int") || bytes_eq s (codes "decimal")

abbrev pub is_date_type : List ℕ → Bool
is_date_type s = bytes_eq s (codes "date")

abbrev pub is_type : List ℕ → Bool
is_type s = is_number_type s || bytes_eq s (codes "text") || is_date_type s

abbrev pub column_bad_type : RawColumn → List JsonPointer
column_bad_type c = unless (is_type c.kind.text) c.kind.place

abbrev pub table_bad_types : RawTable → List JsonPointer
table_bad_types t = flat_map column_bad_type t.columns.items

abbrev pub bad_types : RawDesc → List JsonPointer
bad_types r = flat_map table_bad_types r.tables

abbrev pub kind_of : Option RawColumn → List ℕ
kind_of None = []
kind_of (Some c) = c.kind.text

-- the type of the column with this name, as it is written; nothing where there is none
abbrev pub type_of : List RawColumn → List ℕ → List ℕ
type_of cs name = kind_of (find (λ c. bytes_eq c.name.text name) cs)
