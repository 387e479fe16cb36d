-- The bodies of products are read exactly.
use Rattle.std.proofs.Common.{◌≡◌, ◌++◌, ◌∙◌, ℕ, true, List, [], length, Option, Some, refl, sym, ap, subst, arith}
use Rattle.std.specs.Prelude.{map}
use Rattle.std.proofs.lemmas.Slice.Eq.{bytes_eq-Decides}
use Rattle.byte_frame.specs.Exact.{Exact, Takes}
use Rattle.byte_frame.specs.Reading.{as_at, if_at}
use Rattle.byte_frame.proofs.Exact.{bind_some, exact_fit, exact_if, some_is}
use Rattle.cell_store.specs.Cells.{CellRows}
use Rattle.cube_val.specs.declared.val.Val.{Val}
use Rattle.range_list.specs.Ranges.{Interval}
use Rattle.cube_fields.proofs.ExactCells.{exact_table, exact_tables}
use Rattle.step_codec.specs.Layouts.{base_mask, is_in_layer, layer_masks, row_limit, table_form}
use Rattle.step_codec.specs.Seals.{FitsSeal, seal_at, seal_text}
use Rattle.step_codec.specs.declared.seal.SealBody.{SealBody}
use Rattle.step_codec.proofs.ExactBodies.{exact_holding}
use Rattle.step_codec.proofs.ExactSeals.{exact_seal}
use Rattle.step_codec.proofs.LayerFacts.{few_places, small_at, small_places}
use Rattle.step_files.specs.Cubes.{layout_in}
use Rattle.step_files.specs.Products.{FitsProduct, is_seal, product_at, product_body}
use Rattle.step_files.specs.Tasks.{FitsTask}
use Rattle.step_files.specs.declared.product.Product.{Product}
use Rattle.step_files.specs.declared.product.Product.TheVariants as product
use Rattle.step_files.specs.declared.task.Task.{Task}
use Rattle.step_files.specs.declared.task.Task.TheVariants as task
use Rattle.step_files.proofs.ExactTasks.{exact_flat}
use Rattle.step_files.proofs.LayoutFacts.{is_layout}

-- values of one kind among several
exact_kind : {A B : Type 0} (kind : A → B) (s : A → List ℕ) (t : B → List ℕ) (F : A → Type 0) (G : B → Type 0) (r : List ℕ → Option (A × List ℕ))
    → ((x : A) → t (kind x) ≡ s x) → ((x : A) → F x → G (kind x)) → ((y : B) → G y → (x : A) × ((kind x ≡ y) × F x)) → Exact s F r → Exact t G (as_at kind r)
exact_kind {A = A} {B = B} kind s t F G r spelled one two read = record {
  takes = λ bytes z fits e.
      let a = bind_some (r bytes) (λ x. Some (kind x.0, x.1)) z e in
      let l = read.takes bytes a.0 fits a.1 in
      let made : B × List ℕ = (kind a.0.0, a.0.1) in
      subst (λ (y : B × List ℕ). Takes bytes (t y.0) y.1 × G y.0) (some_is made z a.2)
      (subst (λ (w : List ℕ). Takes bytes w a.0.1) (sym (spelled a.0.0)) l.0, one a.0.0 l.1);
  again = λ y rest h.
      let w = two y h in
      let here : as_at kind r (t (kind w.0) ++ rest) ≡ Some (kind w.0, rest) = subst (λ (u : List ℕ). as_at kind r (u ++ rest) ≡ Some (kind w.0, rest)) (sym (spelled w.0)) (rw (read.again w.0 rest w.1.1) refl) in
      subst (λ (b : B). as_at kind r (t b ++ rest) ≡ Some (b, rest)) w.1.0 here;
}

out_flat : (desc : List ℕ) (range : Interval) (tables : List (List (List Val))) (y : Product) → FitsProduct (task.Flat desc range tables) y → (x : List (List Val)) × ((product.Flat x ≡ y) × FitsProduct (task.Flat desc range tables) (product.Flat x))
out_flat desc range tables (product.Flat x) h = (x, (refl, h))
out_flat desc range tables (product.Dicts x) h = absurd h
out_flat desc range tables (product.Base x) h = absurd h
out_flat desc range tables (product.Cells x) h = absurd h
out_flat desc range tables (product.Seal x) h = absurd h

out_dicts : (desc : List ℕ) (flat : List (List Val)) (y : Product) → FitsProduct (task.Dict desc flat) y → (x : List (List Val)) × ((product.Dicts x ≡ y) × FitsProduct (task.Dict desc flat) (product.Dicts x))
out_dicts desc flat (product.Flat x) h = absurd h
out_dicts desc flat (product.Dicts x) h = (x, (refl, h))
out_dicts desc flat (product.Base x) h = absurd h
out_dicts desc flat (product.Cells x) h = absurd h
out_dicts desc flat (product.Seal x) h = absurd h

out_base : (desc : List ℕ) (flat dicts : List (List Val)) (y : Product) → FitsProduct (task.Base desc flat dicts) y → (x : CellRows) × ((product.Base x ≡ y) × FitsProduct (task.Base desc flat dicts) (product.Base x))
out_base desc flat dicts (product.Flat x) h = absurd h
out_base desc flat dicts (product.Dicts x) h = absurd h
out_base desc flat dicts (product.Base x) h = (x, (refl, h))
out_base desc flat dicts (product.Cells x) h = absurd h
out_base desc flat dicts (product.Seal x) h = absurd h

out_cells : (desc : List ℕ) (dims : ℕ) (sizes : List ℕ) (parents : List CellRows) (y : Product) → FitsProduct (task.Layer desc dims sizes parents) y → (x : List CellRows) × ((product.Cells x ≡ y) × FitsProduct (task.Layer desc dims sizes parents) (product.Cells x))
out_cells desc dims sizes parents (product.Flat x) h = absurd h
out_cells desc dims sizes parents (product.Dicts x) h = absurd h
out_cells desc dims sizes parents (product.Base x) h = absurd h
out_cells desc dims sizes parents (product.Cells x) h = (x, (refl, h))
out_cells desc dims sizes parents (product.Seal x) h = absurd h

out_seal : (s : SealBody) (y : Product) → FitsProduct (task.Seal s) y → (x : SealBody) × ((product.Seal x ≡ y) × FitsProduct (task.Seal s) (product.Seal x))
out_seal s (product.Flat x) h = absurd h
out_seal s (product.Dicts x) h = absurd h
out_seal s (product.Base x) h = absurd h
out_seal s (product.Cells x) h = absurd h
out_seal s (product.Seal x) h = (x, (refl, h))

-- seals that are written as the same bytes are the same
same_seal : (s p : SealBody) → FitsSeal s → FitsSeal p → seal_text p ≡ seal_text s → p ≡ s
same_seal s p hs hp e =
    let one = exact_seal.again s [] hs in
    let two = exact_seal.again p [] hp in
    let both : (let x : Option (SealBody × List ℕ) = Some (p, []) in x) ≡ Some (s, []) = sym two ∙ ap (λ (t : List ℕ). seal_at (t ++ [])) e ∙ one in
    ap (λ (z : SealBody × List ℕ). z.0) (some_is (p, []) (s, []) both)

exact_own_seal : (s : SealBody) → FitsSeal s → Exact seal_text (λ (p : SealBody). p ≡ s) (if_at (is_seal s) seal_at)
exact_own_seal s h = exact_fit seal_text (λ (p : SealBody). FitsSeal p × (is_seal s p ≡ true)) (λ (p : SealBody). p ≡ s) (if_at (is_seal s) seal_at)
    (λ p g. same_seal s p h g.0 ((bytes_eq-Decides (seal_text p) (seal_text s)).0 g.1))
    (λ p e. (subst FitsSeal (sym e) h, (bytes_eq-Decides (seal_text p) (seal_text s)).1 (ap seal_text e)))
    (exact_if (is_seal s) _ _ _ exact_seal)

product_exact : (t : Task) → FitsTask t → Exact product_body (FitsProduct t) (product_at t)
unfolding product_at
product_exact (task.Flat desc range tables) h = exact_kind product.Flat _ product_body _ (FitsProduct (task.Flat desc range tables)) _ (λ x. refl) (λ x g. g) (out_flat desc range tables) (exact_flat desc)
product_exact (task.Dict desc flat) h = exact_kind product.Dicts _ product_body _ (FitsProduct (task.Dict desc flat)) _ (λ x. refl) (λ x g. g) (out_dicts desc flat) (exact_holding (layout_in desc) row_limit flat (is_layout desc h.0.1) (omega arith))
product_exact (task.Base desc flat dicts) h =
    let is = is_layout desc h.0.1 in
    exact_kind product.Base _ product_body _ (FitsProduct (task.Base desc flat dicts)) _ (λ x. refl) (λ x g. g) (out_base desc flat dicts)
    (exact_table (table_form (layout_in desc) (map length dicts) 1) (base_mask (layout_in desc)) (omega arith) (small_at (layout_in desc).masks _ is.masks))
product_exact (task.Layer desc dims sizes parents) h =
    let is = is_layout desc h.0.1 in
    exact_kind product.Cells _ product_body _ (FitsProduct (task.Layer desc dims sizes parents)) _ (λ x. refl) (λ x g. g) (out_cells desc dims sizes parents)
    (exact_tables (table_form (layout_in desc) sizes 1) (layer_masks (layout_in desc).masks dims) (omega arith) (omega (arith, few_places (is_in_layer (layout_in desc).masks dims) (layout_in desc).masks, is.few_masks)) (small_places (layout_in desc).masks _ is.masks))
product_exact (task.Seal s) h = exact_kind product.Seal seal_text product_body _ (FitsProduct (task.Seal s)) _ (λ x. refl) (λ x g. g) (out_seal s) (exact_own_seal s h)

pub exact_product : (t : Task) → FitsTask t → Exact product_body (FitsProduct t) (product_at t)
exact_product t h = product_exact t h
