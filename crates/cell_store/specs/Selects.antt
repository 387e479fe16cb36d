-- Rows picked by tests of their keys' numbers.
use Rattle.std.specs.Prelude.{ℕ, Bool, ◌&&◌, List, [], filter, length, nat_le, nat_lt, slice_index, slice_index_or}
use Rattle.std.specs.List.{list_all, list_any, range_with_len}
use Rattle.cell_store.specs.declared.cell.Cell.{Cell}
use Rattle.cell_store.specs.declared.select.IdSpan.{IdSpan}
use Rattle.cell_store.specs.declared.select.IdTest.{IdTest}

-- an id is in a span: at least its from, and below its to
abbrev pub is_in : ℕ → IdSpan → Bool
is_in id span = nat_le span.from id && nat_lt id span.to

-- an id is in one of the spans
abbrev pub in_spans : List IdSpan → ℕ → Bool
in_spans spans id = list_any (is_in id) spans

-- a key passes a test where its number in the test's column is in one of the spans
abbrev pub passes_test : List ℕ → IdTest → Bool
passes_test key test = in_spans test.spans.items (slice_index key test.column)

-- a key passes tests where it passes each
abbrev pub passes : List IdTest → List ℕ → Bool
passes tests key = list_all (passes_test key) tests

-- the row at a place
abbrev pub row_at : List (List ℕ × List Cell) → ℕ → List ℕ × List Cell
row_at rows place = slice_index_or rows place ([], [])

-- the places of the rows whose keys pass the tests, rising
abbrev pub places_of : List IdTest → List (List ℕ × List Cell) → List ℕ
places_of tests rows = filter (λ place. passes tests (row_at rows place).0) (range_with_len 0 (length rows))

-- what contracts see of picked rows: their places in the table, rising, and the rows themselves
pub record PickedRows : Type 0 where
  pub places : List ℕ
  pub rows : List (List ℕ × List Cell)
