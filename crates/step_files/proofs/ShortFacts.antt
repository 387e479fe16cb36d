-- The lists of valid tasks, and of their products, have a number of items that has a place.
use Rattle.std.proofs.Common.{◌≡◌, ◌≤◌, ◌<◌, ◌^◌, ℕ, suc, List, [], ◌∷◌, length, refl, sym, ap, subst, arith}
use Rattle.std.specs.Prelude.{All, map, sum_by}
use Rattle.std.specs.List.{AllByRecursion}
use Rattle.std.proofs.lemmas.List.{length-map}
use Rattle.std.proofs.lemmas.List.Elements.{All-from_recursion}
use Rattle.std.proofs.lemmas.List.Sums.{sum_by-cons}
use Rattle.agg_group.specs.declared.mask.Mask.{Mask}
use Rattle.byte_frame.specs.Spelling.{EachFits}
use Rattle.cell_store.specs.Cells.{CellRows}
use Rattle.cell_store.specs.declared.cell.Cell.{Cell}
use Rattle.cell_store.specs.declared.cell.Cell.TheVariants.{Count}
use Rattle.cube_fields.specs.Cells.{FitsCell, FitsCells, FitsRow, FitsTable, IsShortCell, IsShortTable, count_in}
use Rattle.cube_fields.specs.Dicts.{FitsDict}
use Rattle.cube_fields.specs.declared.forms.CellField.{CellField}
use Rattle.cube_fields.specs.declared.forms.CellTableForm.{CellTableForm}
use Rattle.cube_fields.proofs.CellFacts.{short_cell}
use Rattle.cube_val.specs.declared.val.Val.{Val}
use Rattle.range_list.specs.Ranges.{Interval}
use Rattle.step_codec.specs.Bodies.{FitsHolding, FitsLayer, FitsLoaded}
use Rattle.step_codec.specs.Layouts.{IsLayout, base_mask, dict_form, dict_forms, is_above_layer, is_in_layer, layer_masks, parent_masks, row_limit, size_limit, table_form}
use Rattle.step_codec.specs.Seals.{FitsSeal, most_items}
use Rattle.step_codec.specs.Tables.{TableShape}
use Rattle.step_codec.specs.declared.layout.DictColumn.{DictColumn}
use Rattle.step_codec.specs.declared.layout.Layout.{Layout}
use Rattle.step_codec.specs.declared.seal.SealBody.{SealBody}
use Rattle.step_codec.proofs.LayerFacts.{few_places}
use Rattle.step_files.specs.Cubes.{layout_in}
use Rattle.step_files.specs.Products.{FitsProduct, IsShortProduct}
use Rattle.step_files.specs.Tasks.{FitsTask}
use Rattle.step_files.specs.declared.product.Product.{Product}
use Rattle.step_files.specs.declared.product.Product.TheVariants as product
use Rattle.step_files.specs.declared.task.Task.{Task}
use Rattle.step_files.specs.declared.task.Task.TheVariants as task
use Rattle.step_files.proofs.LayoutFacts.{is_layout}

abbrev pub Row : Type 0
Row = List ℕ × List Cell

pub each_length : {C A : Type 0} (F : C → A → Type 0) (cs : List C) (xs : List A) → EachFits F cs xs → length xs ≡ length cs
each_length F [] [] h = refl
each_length F [] (x ∷ xs) h = absurd h
each_length F (c ∷ cs) [] h = absurd h
each_length F (c ∷ cs) (x ∷ xs) h = ap suc (each_length F cs xs h.1)

-- ---- cell tables

short_each : (n : ℕ) (fs : List CellField) (cells : List Cell) → n < 2 ^ 32 → EachFits (FitsCell n) fs cells → AllByRecursion IsShortCell cells
short_each n [] [] few h = tt
short_each n [] (c ∷ cells) few h = absurd h
short_each n (f ∷ fs) [] few h = absurd h
short_each n (f ∷ fs) (c ∷ cells) few h = (short_cell n f c few h.0, short_each n fs cells few h.1)

short_cells : (most : ℕ) (fs : List CellField) (cells : List Cell) → most < 2 ^ 32 → FitsCells most fs cells → AllByRecursion IsShortCell cells
short_cells most fs [] few h = absurd h
short_cells most fs (Count n ∷ cells) few h = (tt, short_each n fs cells (omega (arith, few, h.0.1)) h.1)
short_cells most fs (c ∷ cells) few h = absurd h

-- each row counts one at least
counts_one : (most : ℕ) (fs : List CellField) (cells : List Cell) → FitsCells most fs cells → 1 ≤ count_in cells
counts_one most fs [] h = absurd h
counts_one most fs (Count n ∷ cells) h = h.0.0
counts_one most fs (c ∷ cells) h = absurd h

module _ (sizes : List ℕ) (f : CellTableForm) (small : f.most < 2 ^ 32) where
  short_rows : (rows : List Row) → AllByRecursion (FitsRow sizes f) rows → AllByRecursion (λ (row : Row). All IsShortCell row.1) rows
  short_rows [] all = tt
  short_rows (row ∷ rows) all = (All-from_recursion IsShortCell row.1 (short_cells f.most f.cells row.1 small all.0.cells), short_rows rows all.1)

  rows_counted : (rows : List Row) → AllByRecursion (FitsRow sizes f) rows → length rows ≤ sum_by (λ (row : Row). count_in row.1) rows
  rows_counted [] all = omega arith
  rows_counted (row ∷ rows) all = omega (arith, counts_one f.most f.cells row.1 all.0.cells, rows_counted rows all.1, sum_by-cons (λ (r : Row). count_in r.1) row rows)

  short_list : (rows : List Row) → AllByRecursion (FitsRow sizes f) rows → sum_by (λ (row : Row). count_in row.1) rows ≤ f.most → (length rows < 2 ^ 32) × All (λ (row : Row). All IsShortCell row.1) rows
  short_list rows all few = (omega (arith, small, few, rows_counted rows all), All-from_recursion (λ (row : Row). All IsShortCell row.1) rows (short_rows rows all))

module _ (f : CellTableForm) (small : f.most < 2 ^ 32) where
  pub short_table : (m : Mask) (t : CellRows) → FitsTable f m t → IsShortTable t
  short_table m t h = short_list _ f small t.rows h.rows h.few

  each_short : (ms : List Mask) (tables : List CellRows) → EachFits (FitsTable f) ms tables → AllByRecursion IsShortTable tables
  each_short [] [] h = tt
  each_short [] (t ∷ tables) h = absurd h
  each_short (m ∷ ms) [] h = absurd h
  each_short (m ∷ ms) (t ∷ tables) h = (short_table m t h.0, each_short ms tables h.1)

  pub short_tables : (ms : List Mask) (tables : List CellRows) → EachFits (FitsTable f) ms tables → All IsShortTable tables
  short_tables ms tables h = All-from_recursion IsShortTable tables (each_short ms tables h)

-- ---- tasks

short_loaded : (ts : List TableShape) (tables : List (List (List Val))) → EachFits FitsLoaded ts tables → AllByRecursion (λ (rows : List (List Val)). length rows < 2 ^ 32) tables
short_loaded [] [] h = tt
short_loaded [] (rows ∷ tables) h = absurd h
short_loaded (t ∷ ts) [] h = absurd h
short_loaded (t ∷ ts) (rows ∷ tables) h = (omega (arith, h.0.0.0), short_loaded ts tables h.1)

pub tables_short : (ts : List TableShape) (tables : List (List (List Val))) → EachFits FitsLoaded ts tables → All (λ (rows : List (List Val)). length rows < 2 ^ 32) tables
tables_short ts tables h = All-from_recursion (λ (rows : List (List Val)). length rows < 2 ^ 32) tables (short_loaded ts tables h)

module _ (l : Layout) (is : IsLayout l) where
  pub dicts_short : (limit : ℕ) (rows dicts : List (List Val)) → FitsHolding l limit rows dicts → length dicts < 2 ^ 32
  dicts_short limit rows dicts h = omega (arith, each_length FitsDict (dict_forms l limit) dicts h.0, length-map l.dicts (dict_form limit), is.few_dicts)

  pub sizes_short : (dims : ℕ) (sizes : List ℕ) (parents : List CellRows) → FitsLayer l (dims, (sizes, parents)) → length sizes < 2 ^ 32
  sizes_short dims sizes parents h = omega (arith, each_length (λ (d : DictColumn) size. (size ≤ size_limit) × (size < 2 ^ 32)) l.dicts sizes h.1.0, is.few_dicts)

  pub parents_few : (dims : ℕ) (sizes : List ℕ) (parents : List CellRows) → FitsLayer l (dims, (sizes, parents)) → length parents < 2 ^ 32
  parents_few dims sizes parents h = omega (arith, each_length (FitsTable (table_form l sizes 1)) (parent_masks l.masks dims) parents h.1.1, few_places (is_above_layer l.masks dims) l.masks, is.few_masks)

  pub parents_short : (dims : ℕ) (sizes : List ℕ) (parents : List CellRows) → FitsLayer l (dims, (sizes, parents)) → All IsShortTable parents
  parents_short dims sizes parents h = short_tables (table_form l sizes 1) (omega arith) (parent_masks l.masks dims) parents h.1.1

  cells_short : (dims : ℕ) (sizes : List ℕ) (tables : List CellRows) → EachFits (FitsTable (table_form l sizes 1)) (layer_masks l.masks dims) tables → (length tables < 2 ^ 32) × All IsShortTable tables
  cells_short dims sizes tables h = (
    omega (arith, each_length (FitsTable (table_form l sizes 1)) (layer_masks l.masks dims) tables h, few_places (is_in_layer l.masks dims) l.masks, is.few_masks),
    short_tables (table_form l sizes 1) (omega arith) (layer_masks l.masks dims) tables h,
  )

-- a valid task of each kind
pub short_flat : (t : Task) (desc : List ℕ) (range : Interval) (tables : List (List (List Val))) → FitsTask t → t ≡ task.Flat desc range tables → (length desc < 2 ^ 32) × All (λ (rows : List (List Val)). length rows < 2 ^ 32) tables
short_flat t desc range tables h e = let g : FitsTask (task.Flat desc range tables) = subst FitsTask e h in (g.0.0, tables_short (layout_in desc).tables tables g.1.1)

pub short_dict : (t : Task) (desc : List ℕ) (flat : List (List Val)) → FitsTask t → t ≡ task.Dict desc flat → (length desc < 2 ^ 32) × (length flat < 2 ^ 32)
short_dict t desc flat h e = let g : FitsTask (task.Dict desc flat) = subst FitsTask e h in (g.0.0, omega (arith, g.1.0))

pub short_base : (t : Task) (desc : List ℕ) (flat dicts : List (List Val)) → FitsTask t → t ≡ task.Base desc flat dicts → (length desc < 2 ^ 32) × (length flat < 2 ^ 32) × (length dicts < 2 ^ 32)
short_base t desc flat dicts h e =
    let g : FitsTask (task.Base desc flat dicts) = subst FitsTask e h in
    (g.0.0, omega (arith, g.1.0.0), dicts_short (layout_in desc) (is_layout desc g.0.1) size_limit flat dicts g.1.1)

pub short_layer : (t : Task) (desc : List ℕ) (dims : ℕ) (sizes : List ℕ) (parents : List CellRows) → FitsTask t → t ≡ task.Layer desc dims sizes parents
    → (length desc < 2 ^ 32) × (length sizes < 2 ^ 32) × (length parents < 2 ^ 32) × All IsShortTable parents
short_layer t desc dims sizes parents h e =
    let g : FitsTask (task.Layer desc dims sizes parents) = subst FitsTask e h in
    let is = is_layout desc g.0.1 in
    (g.0.0, sizes_short (layout_in desc) is dims sizes parents g.1, parents_few (layout_in desc) is dims sizes parents g.1, parents_short (layout_in desc) is dims sizes parents g.1)

pub short_seal : (t : Task) (s : SealBody) → FitsTask t → t ≡ task.Seal s → FitsSeal s
short_seal t s h e = subst FitsTask e h

-- ---- products

same_short : (s p : SealBody) → p ≡ s → (length s.done ≤ most_items) × (length s.cuboids ≤ most_items) → (length p.done ≤ most_items) × (length p.cuboids ≤ most_items)
same_short s p e h = subst (λ (q : SealBody). (length q.done ≤ most_items) × (length q.cuboids ≤ most_items)) (sym e) h

-- a product of a valid task
pub product_short : (t : Task) (p : Product) → FitsTask t → FitsProduct t p → IsShortProduct p
product_short (task.Flat desc range tables) (product.Flat rows) f h = omega (arith, h.0)
product_short (task.Dict desc flat) (product.Dicts dicts) f h = dicts_short (layout_in desc) (is_layout desc f.0.1) row_limit flat dicts h
product_short (task.Base desc flat dicts) (product.Base table) f h = short_table (table_form (layout_in desc) (map length dicts) 1) (omega arith) (base_mask (layout_in desc)) table h
product_short (task.Layer desc dims sizes parents) (product.Cells tables) f h = cells_short (layout_in desc) (is_layout desc f.0.1) dims sizes tables h
product_short (task.Seal s) (product.Seal p) f h = same_short s p h (f.few_done, f.few_cuboids)
product_short t p f h = absurd h
