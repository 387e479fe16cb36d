-- Joins, and the partition date.
use Rattle.std.specs.Prelude.{ℕ, List, codes, Bool, ◌&&◌, ◌||◌, ◌==◌, bytes_eq, length, zip}
use Rattle.std.specs.List.{flat_map, list_all}
use Rattle.descriptor_json.specs.Places.{JsonPointer}
use Rattle.descriptor_json.specs.declared.raw.RawName.{RawName}
use Rattle.descriptor_json.specs.declared.raw.RawColumn.{RawColumn}
use Rattle.descriptor_json.specs.declared.raw.RawJoin.{RawJoin}
use Rattle.descriptor_json.specs.declared.raw.RawLookup.{RawLookup}
use Rattle.descriptor_json.specs.declared.raw.RawDesc.{RawDesc}
use Rattle.desc_checks.specs.Firsts.{unless}
use Rattle.desc_checks.specs.Limits.{is_some_up_to}
use Rattle.desc_checks.specs.Tables.{columns_of, fact_columns}
use Rattle.desc_checks.specs.Types.{type_of, is_date_type}

abbrev pub is_join_kind : List ℕ → Bool
is_join_kind s = bytes_eq s (codes "inner") || bytes_eq s (codes "left")

-- the two columns of a pair have one type
abbrev pub is_pair : List RawColumn → List RawColumn → RawName × RawName → Bool
is_pair lookup fact pair = bytes_eq (type_of lookup pair.0.text) (type_of fact pair.1.text)

-- 1 to 4 pairs of columns, each of one type
abbrev pub are_pairs : List RawColumn → List RawColumn → RawJoin → Bool
are_pairs lookup fact j = is_some_up_to 4 (length j.primary) && (length j.primary == length j.foreign) && list_all (is_pair lookup fact) (zip j.primary j.foreign)

abbrev pub is_join : RawDesc → RawLookup → Bool
is_join r l = is_join_kind l.join.kind.text && are_pairs (columns_of r l.table.text) (fact_columns r) l.join

abbrev pub bad_join : RawDesc → RawLookup → List JsonPointer
bad_join r l = unless (is_join r l) l.join.place

abbrev pub bad_joins : RawDesc → List JsonPointer
bad_joins r = flat_map (bad_join r) r.lookups.items

abbrev pub bad_partition : RawDesc → List JsonPointer
bad_partition r = unless (is_date_type (type_of (fact_columns r) r.partition.text)) r.partition.place
