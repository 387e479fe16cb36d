-- Products, and the bytes of their bodies.
use Rattle.std.specs.Prelude.{All, ◌≡◌, ◌≤◌, ◌<◌, ◌^◌, ℕ, Bool, bytes_eq, List, Option, length, map}
use Rattle.byte_frame.specs.Reading.{as_at, if_at}
use Rattle.step_fields.specs.Reading.{rows_at}
use Rattle.step_fields.specs.Spelling.{rows_text}
use Rattle.cube_fields.specs.Cells.{FitsTable, FitsTables, IsShortTable, table_text, tables_text}
use Rattle.cube_fields.specs.Dicts.{dicts_text}
use Rattle.cube_fields.specs.Reading.{table_at, tables_at}
use Rattle.step_codec.specs.Bodies.{FitsHolding}
use Rattle.step_codec.specs.Layouts.{base_mask, layer_masks, row_limit, table_form}
use Rattle.step_codec.specs.Reading.{holding_at}
use Rattle.step_codec.specs.Seals.{most_items, seal_at, seal_text}
use Rattle.step_codec.specs.declared.seal.SealBody.{SealBody}
use Rattle.step_files.specs.Cubes.{layout_in}
use Rattle.step_files.specs.Tasks.{FitsFlat}
use Rattle.step_files.specs.declared.product.Product.{Product}
use Rattle.step_files.specs.declared.product.Product.TheVariants as product
use Rattle.step_files.specs.declared.task.Task.{Task}
use Rattle.step_files.specs.declared.task.Task.TheVariants as task

abbrev pub product_body : Product → List ℕ
product_body (product.Flat rows) = rows_text rows
product_body (product.Dicts dicts) = dicts_text dicts
product_body (product.Base table) = table_text table
product_body (product.Cells tables) = tables_text tables
product_body (product.Seal s) = seal_text s

-- each list has a number of items that has a place; so it is in every product of a task
abbrev pub IsShortProduct : Product → Type 0
IsShortProduct (product.Flat rows) = length rows < 2 ^ 32
IsShortProduct (product.Dicts dicts) = length dicts < 2 ^ 32
IsShortProduct (product.Base table) = IsShortTable table
IsShortProduct (product.Cells tables) = (length tables < 2 ^ 32) × All IsShortTable tables
IsShortProduct (product.Seal s) = (length s.done ≤ most_items) × (length s.cuboids ≤ most_items)

-- a product of the task: for seal the task's own body, for each other kind any that has the form that the task gives
abbrev pub FitsProduct : Task → Product → Type 0
FitsProduct (task.Flat desc range tables) (product.Flat rows) = FitsFlat (layout_in desc) rows
FitsProduct (task.Dict desc flat) (product.Dicts dicts) = FitsHolding (layout_in desc) row_limit flat dicts
FitsProduct (task.Base desc flat dicts) (product.Base table) = FitsTable (table_form (layout_in desc) (map length dicts) 1) (base_mask (layout_in desc)) table
FitsProduct (task.Layer desc dims sizes parents) (product.Cells tables) = FitsTables (table_form (layout_in desc) sizes 1) (layer_masks (layout_in desc).masks dims) tables
FitsProduct (task.Seal s) (product.Seal p) = p ≡ s
FitsProduct t p = ⊥

-- written as the same bytes
abbrev pub is_seal : SealBody → SealBody → Bool
is_seal s p = bytes_eq (seal_text p) (seal_text s)

-- a product of the task
unfoldable pub product_at : Task → List ℕ → Option (Product × List ℕ)
product_at (task.Flat desc range tables) bytes = as_at product.Flat (rows_at (layout_in desc).flat row_limit) bytes
product_at (task.Dict desc flat) bytes = as_at product.Dicts (holding_at (layout_in desc) row_limit flat) bytes
product_at (task.Base desc flat dicts) bytes = as_at product.Base (table_at (table_form (layout_in desc) (map length dicts) 1) (base_mask (layout_in desc))) bytes
product_at (task.Layer desc dims sizes parents) bytes = as_at product.Cells (tables_at (table_form (layout_in desc) sizes 1) (layer_masks (layout_in desc).masks dims)) bytes
product_at (task.Seal s) bytes = as_at product.Seal (if_at (is_seal s) seal_at) bytes
