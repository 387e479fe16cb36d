-- How many of each kind there may be.
use Rattle.std.specs.Prelude.{ℕ, List, ◌++◌, Bool, ◌&&◌, nat_le, nat_lt, length}
use Rattle.std.specs.List.{flat_map}
use Rattle.agg_group.specs.Limits.{most_dimensions}
use Rattle.descriptor_json.specs.Places.{JsonPointer}
use Rattle.descriptor_json.specs.declared.raw.RawTable.{RawTable}
use Rattle.descriptor_json.specs.declared.raw.RawDesc.{RawDesc}
use Rattle.desc_checks.specs.Firsts.{unless}

-- from 1 to so many
abbrev pub is_some_up_to : ℕ → ℕ → Bool
is_some_up_to most n = nat_lt 0 n && nat_le n most

-- columns of a table: 1 to 64
abbrev pub table_too_many : RawTable → List JsonPointer
table_too_many t = unless (is_some_up_to 64 (length t.columns.items)) t.columns.place

-- lookups: at most 8; measures: at most 16; columns of the rowkey: 1 to the most dimensions; aggregation groups: at most 8
abbrev pub too_many : RawDesc → List JsonPointer
too_many r =
    flat_map table_too_many r.tables
    ++ unless (nat_le (length r.lookups.items) 8) r.lookups.place
    ++ unless (nat_le (length r.measures.items) 16) r.measures.place
    ++ unless (is_some_up_to most_dimensions (length r.rowkey.items)) r.rowkey.place
    ++ unless (nat_le (length r.groups.items) 8) r.groups.place
