-- Joins, and those of the descriptor.
use Rattle.std.specs.Prelude.{ℕ, zero, suc, List, [], ◌∷◌, Option, Some, None, Bool, false, not, ◌&&◌, ◌||◌, ◌==◌, nat_le, bytes_eq, slice_get, zip, count_by}
use Rattle.std.specs.List.{flat_map, list_all, list_any}
use Rattle.cube_val.specs.declared.form.WideCol.{WideCol}
use Rattle.cube_val.specs.declared.form.JoinStep.{JoinStep}
use Rattle.cube_desc.specs.Cube.{Cube}
use Rattle.cube_desc.specs.declared.desc.TableDesc.{TableDesc}
use Rattle.sql_reader.specs.declared.tree.JoinKind.{JoinKind}
use Rattle.sql_reader.specs.declared.tree.JoinKind.TheVariants.{Inner, Left}
use Rattle.sql_reader.specs.declared.tree.JoinPair.{JoinPair}
use Rattle.sql_reader.specs.declared.tree.Join.{Join}
use Rattle.sql_reader.specs.declared.tree.Query.{Query}
use Rattle.query_names.specs.Least.{unless}
use Rattle.query_names.specs.Names.{is_joined}
use Rattle.query_names.specs.Resolve.{found, table_number}

-- ---- inner joins that aren't named

-- the tables behind the fact table
abbrev pub lookups_of : List TableDesc → List TableDesc
lookups_of [] = []
lookups_of (fact ∷ lookups) = lookups

-- the query names the lookup, or needn't
abbrev pub is_there : Query → JoinStep × TableDesc → Bool
is_there q lookup = not lookup.0.inner || is_joined q lookup.1.name

-- the place behind FROM, where an inner join isn't named
abbrev pub joins_missing : Cube → Query → List ℕ
joins_missing c q = unless (list_all (is_there q) (zip c.plan.joins (lookups_of c.tables))) q.table.place

-- ---- joins that are others than the descriptor's

abbrev pub is_column : ℕ → ℕ → Option WideCol → Bool
is_column table column None = false
is_column table column (Some w) = (w.table == table) && (w.column == column)

-- the two sides are the foreign and the primary column, in either order; the lookup has this number
abbrev pub are_sides : ℕ → Option WideCol → Option WideCol → ℕ × ℕ → Bool
are_sides lookup left right key =
    (is_column 0 key.0 left && is_column lookup key.1 right) || (is_column lookup key.1 left && is_column 0 key.0 right)

abbrev pub is_key_pair : Cube → Query → ℕ → JoinPair → ℕ × ℕ → Bool
is_key_pair c q lookup pair key = are_sides lookup (found c q pair.left) (found c q pair.right) key

-- each pair is one of the keys, and each of the keys one of the pairs
abbrev pub same_pairs : Cube → Query → ℕ → List JoinPair → List (ℕ × ℕ) → Bool
same_pairs c q lookup pairs keys =
    list_all (λ pair. list_any (is_key_pair c q lookup pair) keys) pairs
    && list_all (λ key. list_any (λ pair. is_key_pair c q lookup pair key) pairs) keys

-- an inner join for an inner one, and LEFT for a left one
abbrev pub same_kind : JoinKind → Bool → Bool
same_kind Inner inner = inner
same_kind Left inner = not inner

abbrev pub is_step : Cube → Query → ℕ → Join → Option JoinStep → Bool
is_step c q lookup j None = false
is_step c q lookup j (Some step) = same_kind j.kind step.inner && same_pairs c q lookup j.pairs (zip step.foreign step.primary)

abbrev pub is_join_of : Cube → Query → Join → Option ℕ → Bool
is_join_of c q j None = false
is_join_of c q j (Some zero) = false
is_join_of c q j (Some (suc n)) = is_step c q (suc n) j (slice_get c.plan.joins n)

-- how often the table is joined
abbrev pub times_joined : Query → List ℕ → ℕ
times_joined q name = count_by (λ j. bytes_eq j.table.text name) q.joins

-- a join of another kind, with other pairs, or of a table that is joined twice
abbrev pub not_in_model : Cube → Query → Join → List ℕ
not_in_model c q j = unless (is_join_of c q j (table_number c j.table.text) && nat_le (times_joined q j.table.text) 1) j.table.place

abbrev pub joins_not_in_model : Cube → Query → List ℕ
joins_not_in_model c q = flat_map (not_in_model c q) q.joins
