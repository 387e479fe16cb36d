-- What a segment keeps of its parts.
use Rattle.std.specs.Prelude.{◌≡◌, ◌≤◌, ◌<◌, ◌+◌, ◌*◌, ◌==◌, ⊤, ℕ, Bool, IsTrue, List, [], ◌∷◌, ◌++◌, All, Contains, Option, Some, None, drop, length, map, slice_get, sum_by}
use Rattle.std.specs.List.{AllZip, filter_map, flat_map, list_any, range_with_len}
use Rattle.agg_group.specs.Mask.{IsRising, IsWithin}
use Rattle.agg_group.specs.declared.mask.Mask.{Mask}
use Rattle.cell_gather.specs.Keys.{dims_of}
use Rattle.cell_store.specs.Cells.{CellRows, items_at, items_of}
use Rattle.cell_store.specs.declared.cell.Cell.{Cell}
use Rattle.cell_store.specs.declared.cell.Cell.TheVariants as cells
use Rattle.cube_val.specs.Limits.{row_limit}
use Rattle.cube_val.specs.declared.form.JoinPlan.{JoinPlan}
use Rattle.cube_val.specs.declared.form.JoinStep.{JoinStep}
use Rattle.cube_val.specs.declared.val.Val.{Val}
use Rattle.dim_dictionary.specs.Dictionaries.{dictionary_of}
use Rattle.flat_join.specs.Partners.{Entries, IsServed}
use Rattle.layer_builder.specs.Base.{base_mask, count_of_distincts, dict_at, key_width, next_after}
use Rattle.layer_builder.specs.Cuboids.{IsCuboid}
use Rattle.plain_answer.specs.Aggregates.{cell, known_values}
use Rattle.plain_answer.specs.Kinds.{form_of_kind}
use Rattle.plain_answer.specs.declared.ask.Agg.{Agg}
use Rattle.plain_answer.specs.declared.ask.AggKind.{AggKind}
use Rattle.plain_answer.specs.declared.ask.AggKind.TheVariants as kind
use Rattle.segment_store.specs.Sources.{IsSource, Source, rows_in, rows_of}
use Rattle.segment_store.specs.declared.parts.SegmentParts.{SegmentParts}

-- ---- plan and columns

-- the plan of the first source; all have one plan
abbrev pub plan_among : List Source → JoinPlan
plan_among [] = record { partition = 0; joins = []; wide = [] }
plan_among (source ∷ sources) = source.plan

abbrev pub plan_of : SegmentParts → JoinPlan
plan_of s = plan_among s.origin

-- how many rowkey columns there are: the first of the joined rows' columns, each with a dictionary
abbrev pub width_of : SegmentParts → ℕ
width_of s = key_width s.kept s.dicts

-- the joined rows of all sources, end to end
abbrev pub rows_from : List Source → List (List Val)
rows_from sources = flat_map rows_of sources

-- ---- kept aggregates

-- cells keep the count of rows, and each other aggregate but an average of a column that joined rows have
abbrev pub IsKept : ℕ → AggKind → Option ℕ → Type 0
IsKept wide kind.Count None = ⊤
IsKept wide kind.Count (Some column) = ⊥
IsKept wide kind.Avg column = ⊥
IsKept wide other None = ⊥
IsKept wide other (Some column) = column < wide

-- the first cell of a row is the count of its rows
abbrev pub StartsWithCount : List Agg → Type 0
StartsWithCount [] = ⊥
StartsWithCount (agg ∷ aggs) = agg.kind ≡ kind.Count

-- ---- tables

-- the numbers of different values are those of a dictionary
abbrev pub IsNumberedBy : List Val → Cell → Type 0
IsNumberedBy dict (cells.Distinct s) = All (λ id. id < length dict) s.ids
IsNumberedBy dict other = ⊤

-- each COUNT_DISTINCT has its dictionary, from a place on
abbrev pub AreNumberedBy : List (List Val) → ℕ → List Agg → List Cell → Type 0
AreNumberedBy dicts place [] row = ⊤
AreNumberedBy dicts place (agg ∷ aggs) [] = ⊤
AreNumberedBy dicts place (agg ∷ aggs) (c ∷ row) = IsNumberedBy (dict_at dicts place) c × AreNumberedBy dicts (next_after agg.kind place) aggs row

-- each number of the key is one of its dictionary's, and no cell is of more items than the count of its row
pub record IsRowOf (s : SegmentParts) (mask : Mask) (row : List ℕ × List Cell) : Type 0 where
  pub key : AllZip (λ column id. id < length (dict_at s.dicts column)) (dims_of mask) row.0
  pub distincts : AreNumberedBy s.dicts (width_of s) s.kept row.1
  pub items : All (λ c. items_of c ≤ items_at 0 row.1) row.1

-- a table of the segment: by some rowkey columns, with a cell for each kept aggregate, of no more rows than the sources can have
pub record IsTableOf (s : SegmentParts) (t : CellRows) : Type 0 where
  pub forms : t.forms ≡ map (λ agg. form_of_kind agg.kind) s.kept
  pub within : IsWithin t.mask (base_mask (width_of s))
  pub rows : All (IsRowOf s t.mask) t.rows
  pub few : sum_by (λ row. items_at 0 row.1) t.rows ≤ row_limit * length s.origin

-- ---- lookups

-- a column of the lookup stands behind those of the rowkey
abbrev pub has_derived : ℕ → JoinPlan → ℕ → Bool
has_derived width plan lookup = list_any (λ w. w.table == lookup + 1) (drop width plan.wide)

-- in each lookup with a derived column the snapshot finds what a search through the source's own table finds
abbrev pub IsServedBy : ℕ → List Entries → Source → Type 0
IsServedBy width snaps s =
    (lookup : ℕ) (j : JoinStep) (entries : Entries) → slice_get s.plan.joins lookup ≡ Some j → slice_get snaps lookup ≡ Some entries
    → IsTrue (has_derived width s.plan lookup) → IsServed (j, rows_in s (lookup + 1)) entries

-- ---- what the parts are of joined rows

-- the column whose different values an aggregate counts
abbrev pub distinct_column : AggKind → Option ℕ → Option ℕ
distinct_column kind.Distinct column = column
distinct_column other column = None

-- the columns whose different values are counted, in the order of the aggregates
abbrev pub distinct_columns : List Agg → List ℕ
distinct_columns kept = filter_map (λ agg. distinct_column agg.kind agg.column) kept

-- the columns that have a dictionary: those of the rowkey, and then that of each COUNT_DISTINCT
abbrev pub dictionary_columns : ℕ → List Agg → List ℕ
dictionary_columns width kept = range_with_len 0 width ++ distinct_columns kept

-- the dictionary of a rowkey column of rows, null among its values
abbrev pub key_dictionary : List (List Val) → ℕ → List Val
key_dictionary rows column = dictionary_of (map (λ row. cell row column) rows)

-- that of a column whose different values are counted, without null
abbrev pub distinct_dictionary : List (List Val) → ℕ → List Val
distinct_dictionary rows column = dictionary_of (known_values (Some column) rows)

-- the dictionaries of rows
abbrev pub dictionaries_of : ℕ → List Agg → List (List Val) → List (List Val)
dictionaries_of width kept rows = map (key_dictionary rows) (range_with_len 0 width) ++ map (distinct_dictionary rows) (distinct_columns kept)

-- the dictionaries and tables are those of these rows
pub record IsOfRows (s : SegmentParts) (rows : List (List Val)) : Type 0 where
  pub dicts : s.dicts ≡ dictionaries_of (width_of s) s.kept rows
  pub tables : All (λ t. IsCuboid s.kept s.dicts rows t.mask t) s.tables

-- ---- the whole

-- the most sources of a segment
abbrev pub most_sources : ℕ
most_sources = 1000

-- what each segment keeps, whatever its hands
pub record IsSegment (s : SegmentParts) : Type 0 where
  pub some : 0 < length s.origin
  pub few : length s.origin ≤ most_sources
  pub sources : All IsSource s.origin
  pub one_plan : All (λ source. source.plan ≡ plan_of s) s.origin
  pub counted : StartsWithCount s.kept
  pub kept : All (λ agg. IsKept (length (plan_of s).wide) agg.kind agg.column) s.kept
  pub dicts : count_of_distincts s.kept < length s.dicts
  pub width : width_of s ≤ length (plan_of s).wide
  pub lookups : length s.lookups ≡ length (plan_of s).joins
  pub served : All (IsServedBy (width_of s) s.lookups) s.origin
  pub rising : IsRising (map (λ t. t.mask) s.tables)
  pub base : Contains (map (λ t. t.mask) s.tables) (base_mask (width_of s))
  pub tables : All (IsTableOf s) s.tables

-- and what it is where they are honest: that of the joined rows of its sources
abbrev pub IsOfSources : SegmentParts → Type 0
IsOfSources s = IsOfRows s (rows_from s.origin)
