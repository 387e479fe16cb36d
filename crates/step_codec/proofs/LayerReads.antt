-- What the reader of a layer gives once the first two fields are read.
use Rattle.std.proofs.Common.{◌≡◌, ◌∙◌, ℕ, List, Option, Some, ap, refl, sym}
use Rattle.std.specs.Int.{w32}
use Rattle.byte_frame.specs.Outcomes.{Fails}
use Rattle.byte_frame.specs.Reading.{◌>>=◌, counted_at, number_at}
use Rattle.byte_frame.specs.declared.fault.ReadError.{ReadError}
use Rattle.byte_frame.specs.declared.fault.ReadError.TheVariants.{Malformed, Memory}
use Rattle.cell_store.specs.Cells.{CellRows}
use Rattle.cube_fields.specs.Reading.{tables_at}
use Rattle.step_codec.specs.Layouts.{parent_masks, table_form}
use Rattle.step_codec.specs.Reading.{layer_at, size_at}
use Rattle.step_codec.specs.declared.layout.DictColumn.{DictColumn}
use Rattle.step_codec.specs.declared.layout.Layout.{Layout}

pub fails_on : {X Y : Type 0} (e : ReadError) (read : Option X) (next : X → Option Y) → Fails e read → Fails e (read >>= next)
fails_on {X = X} Malformed read next h = ap (λ (o : Option X). o >>= next) h
fails_on Memory read next h = tt

abbrev with_sizes : List ℕ → List CellRows × List ℕ → Option ((List ℕ × List CellRows) × List ℕ)
with_sizes sizes t = Some ((sizes, t.0), t.1)

abbrev with_dims : ℕ → (List ℕ × List CellRows) × List ℕ → Option ((ℕ × (List ℕ × List CellRows)) × List ℕ)
with_dims dims y = Some ((dims, y.0), y.1)

module _ (l : Layout) (bytes left rest : List ℕ) (dims : ℕ) (columns : List DictColumn) (sizes given : List ℕ) (same : columns ≡ l.dicts) (are : given ≡ sizes) (first : number_at w32 bytes ≡ Some (dims, left)) (second : counted_at (λ (d : DictColumn). size_at) columns left ≡ Some (sizes, rest)) where
  own : counted_at (λ (d : DictColumn). size_at) l.dicts left ≡ Some (sizes, rest)
  own = ap (λ (cs : List DictColumn). counted_at (λ (d : DictColumn). size_at) cs left) (sym same) ∙ second

  layer_is : layer_at l bytes ≡ ((tables_at (table_form l given 1) (parent_masks l.masks dims) rest >>= with_sizes sizes) >>= with_dims dims)
  unfolding layer_at
  layer_is = rw (first, own, are) refl

  pub layer_given : (tables : List CellRows) (end : List ℕ) → tables_at (table_form l given 1) (parent_masks l.masks dims) rest ≡ Some (tables, end) → layer_at l bytes ≡ Some ((dims, (sizes, tables)), end)
  layer_given tables end third = layer_is ∙ ap (λ (o : Option (List CellRows × List ℕ)). (o >>= with_sizes sizes) >>= with_dims dims) third

  pub layer_fails : (e : ReadError) → Fails e (tables_at (table_form l given 1) (parent_masks l.masks dims) rest) → Fails e (layer_at l bytes)
  layer_fails e h = rw layer_is (fails_on e _ _ (fails_on e _ _ h))
