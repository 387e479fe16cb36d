-- Rows of cells under new numbers: each number of a key, and each number of a set of different values, by its own dictionary.
use Rattle.std.specs.Prelude.{◌<◌, ◌-◌, ℕ, List, [], ◌∷◌, All, length, map, slice_get, slice_index, unwrap_or}
use Rattle.std.specs.List.{AllZip}
use Rattle.agg_group.specs.declared.mask.Mask.{Mask}
use Rattle.cell_gather.specs.Keys.{dims_of}
use Rattle.cell_store.specs.Cells.{CellRows, form_of, ids_in}
use Rattle.cell_store.specs.declared.cell.Cell.{Cell}
use Rattle.cell_store.specs.declared.cell.Cell.TheVariants.{Distinct}
use Rattle.measure_laws.specs.Ids.{Ids, ids_of}
use Rattle.measure_laws.specs.Kinds.{dict_after, dict_count}
use Rattle.measure_laws.specs.declared.measure.MeasureForm.{MeasureForm}

-- the new numbers of the dictionary at a place
abbrev pub remap_at : List (List ℕ) → ℕ → List ℕ
remap_at remaps place = unwrap_or (slice_get remaps place) []

-- the new number of an old one
abbrev pub new_number : List ℕ → ℕ → ℕ
new_number numbers id = slice_index numbers id

-- ---- keys

-- a key of these dimensions under the new numbers
abbrev pub renumbered_key : List (List ℕ) → List ℕ → List ℕ → List ℕ
renumbered_key remaps [] key = []
renumbered_key remaps (d ∷ dims) [] = []
renumbered_key remaps (d ∷ dims) (id ∷ key) = new_number (remap_at remaps d) id ∷ renumbered_key remaps dims key

-- ---- cells

-- a set of different values under the new numbers; of how many items it is stays
abbrev pub renumbered_ids : List ℕ → Ids → Ids
renumbered_ids numbers set = record (ids_of (map (new_number numbers) set.ids)) { items = set.items }

abbrev pub renumbered_cell : List ℕ → Cell → Cell
renumbered_cell numbers (Distinct set) = Distinct (renumbered_ids numbers set)
renumbered_cell numbers c = c

-- the cells of a row, where the dictionaries of the COUNT_DISTINCTs begin at a place
abbrev pub renumbered_cells : List (List ℕ) → ℕ → List Cell → List Cell
renumbered_cells remaps place [] = []
renumbered_cells remaps place (c ∷ cells) = renumbered_cell (remap_at remaps place) c ∷ renumbered_cells remaps (dict_after (form_of c) place) cells

-- ---- rows

-- the place of the first dictionary of a COUNT_DISTINCT: behind those of the rowkey columns
abbrev pub first_set : List (List ℕ) → List MeasureForm → ℕ
first_set remaps forms = length remaps - dict_count forms

abbrev pub renumbered_row : List (List ℕ) → Mask → List MeasureForm → List ℕ × List Cell → List ℕ × List Cell
renumbered_row remaps mask forms row = (renumbered_key remaps (dims_of mask) row.0, renumbered_cells remaps (first_set remaps forms) row.1)

-- the rows of a table
abbrev pub renumbered : List (List ℕ) → CellRows → List (List ℕ × List Cell)
renumbered remaps table = map (renumbered_row remaps table.mask table.forms) table.rows

-- ---- where each number has a new one

abbrev pub HasNumbers : List ℕ → Cell → Type 0
HasNumbers numbers c = All (λ id. id < length numbers) (ids_in c)

abbrev pub HaveNumbers : List (List ℕ) → ℕ → List Cell → Type 0
HaveNumbers remaps place [] = Unit {0}
HaveNumbers remaps place (c ∷ cells) = HasNumbers (remap_at remaps place) c × HaveNumbers remaps (dict_after (form_of c) place) cells

pub record IsNumberedRow (remaps : List (List ℕ)) (mask : Mask) (forms : List MeasureForm) (row : List ℕ × List Cell) : Type 0 where
  pub key : AllZip (λ d id. id < length (remap_at remaps d)) (dims_of mask) row.0
  pub sets : HaveNumbers remaps (first_set remaps forms) row.1

-- each number of a part's table has a new one
abbrev pub IsNumberedPart : List (List ℕ) → CellRows → Type 0
IsNumberedPart remaps table = All (IsNumberedRow remaps table.mask table.forms) table.rows
