-- What readers of products give, by the layout of the task's cube.
use Rattle.std.proofs.Common.{◌≡◌, ◌∙◌, ℕ, List, Result, Some, ap, length, subst, sym}
use Rattle.std.specs.Prelude.{map}
use Rattle.byte_frame.specs.Outcomes.{Fails, Gives}
use Rattle.byte_frame.specs.Reading.{as_at}
use Rattle.byte_frame.specs.declared.fault.ReadError.{ReadError}
use Rattle.cell_store.specs.Cells.{CellRows}
use Rattle.cube_fields.specs.Reading.{table_at, tables_at}
use Rattle.cube_val.specs.declared.val.Val.{Val}
use Rattle.step_codec.specs.Layouts.{base_mask, layer_masks, table_form}
use Rattle.step_codec.specs.declared.layout.Layout.{Layout}
use Rattle.step_files.specs.Cubes.{layout_in}
use Rattle.step_files.specs.Products.{product_at}
use Rattle.step_files.specs.declared.product.Product.{Product}
use Rattle.step_files.specs.declared.product.Product.TheVariants as product
use Rattle.step_files.specs.declared.task.Task.{Task}
use Rattle.step_files.specs.declared.task.Task.TheVariants as task
use Rattle.step_files.proofs.ReadFacts.{as_fails, as_gives}

module _ (desc : List ℕ) (l : Layout) (is : l ≡ layout_in desc) (dims : ℕ) (sizes bytes : List ℕ) where
  pub cells_given : (tables made : List CellRows) (rest : List ℕ) → made ≡ tables → tables_at (table_form l sizes 1) (layer_masks l.masks dims) bytes ≡ Some (tables, rest)
      → as_at product.Cells (tables_at (table_form (layout_in desc) sizes 1) (layer_masks (layout_in desc).masks dims)) bytes ≡ Some (product.Cells made, rest)
  cells_given tables made rest same h =
      subst (λ (k : Layout). as_at product.Cells (tables_at (table_form k sizes 1) (layer_masks k.masks dims)) bytes ≡ Some (product.Cells made, rest)) is
      (as_gives product.Cells (tables_at (table_form l sizes 1) (layer_masks l.masks dims)) bytes tables rest h ∙ ap (λ (ts : List CellRows). Some (product.Cells ts, rest)) (sym same))

  pub cells_fail : (e : ReadError) → Fails e (tables_at (table_form l sizes 1) (layer_masks l.masks dims) bytes)
      → Fails e (as_at product.Cells (tables_at (table_form (layout_in desc) sizes 1) (layer_masks (layout_in desc).masks dims)) bytes)
  cells_fail e h =
      subst (λ (k : Layout). Fails e (as_at product.Cells (tables_at (table_form k sizes 1) (layer_masks k.masks dims)) bytes)) is
      (as_fails product.Cells (tables_at (table_form l sizes 1) (layer_masks l.masks dims)) bytes e h)

module _ (show : Product → Product × List ℕ) (answer : Result Product ReadError) (t : Task) (given desc bytes : List ℕ) (same : given ≡ desc) where
  pub base_answer : (flat dicts : List (List Val)) → t ≡ task.Base desc flat dicts
      → Gives show answer (as_at product.Base (table_at (table_form (layout_in given) (map length dicts) 1) (base_mask (layout_in given))) bytes) → Gives show answer (product_at t bytes)
  unfolding product_at
  base_answer flat dicts is h =
      subst (λ (u : Task). Gives show answer (product_at u bytes)) (sym is)
      (subst (λ (d : List ℕ). Gives show answer (as_at product.Base (table_at (table_form (layout_in d) (map length dicts) 1) (base_mask (layout_in d))) bytes)) same h)

  pub layer_answer : (dims : ℕ) (own sizes : List ℕ) (parents : List CellRows) → t ≡ task.Layer desc dims sizes parents → own ≡ sizes
      → Gives show answer (as_at product.Cells (tables_at (table_form (layout_in given) own 1) (layer_masks (layout_in given).masks dims)) bytes) → Gives show answer (product_at t bytes)
  unfolding product_at
  layer_answer dims own sizes parents is sized h =
      subst (λ (u : Task). Gives show answer (product_at u bytes)) (sym is)
      (subst (λ (d : List ℕ). Gives show answer (as_at product.Cells (tables_at (table_form (layout_in d) sizes 1) (layer_masks (layout_in d).masks dims)) bytes)) same
      (subst (λ (s : List ℕ). Gives show answer (as_at product.Cells (tables_at (table_form (layout_in given) s 1) (layer_masks (layout_in given).masks dims)) bytes)) sized h))
