-- Tables, dictionaries and layers are read exactly.
use Rattle.std.proofs.Common.{◌≡◌, ◌≤◌, ◌<◌, ◌^◌, ◌++◌, ℕ, Bool, true, false, not, List, [], ◌∷◌, refl, ap, arith}
use Rattle.std.specs.Prelude.{map, nat_le}
use Rattle.std.specs.Int.{w32}
use Rattle.std.specs.List.{AllByRecursion}
use Rattle.std.proofs.lemmas.Bool.Decides.{nat_tests}
use Rattle.std.proofs.lemmas.List.{length-map}
use Rattle.byte_frame.specs.Exact.{Exact}
use Rattle.byte_frame.proofs.Exact.{each_exact, exact_counted, exact_each, exact_fit, exact_if, exact_number, exact_then, wide32}
use Rattle.cell_store.specs.Cells.{CellRows}
use Rattle.cube_val.specs.declared.val.Val.{Val}
use Rattle.step_fields.specs.Fits.{FitsRows}
use Rattle.step_fields.specs.Spelling.{rows_text}
use Rattle.step_fields.proofs.Exact.{exact_rows}
use Rattle.cube_fields.specs.Cells.{id_text, tables_text}
use Rattle.cube_fields.specs.Dicts.{FitsDicts, dicts_text}
use Rattle.cube_fields.specs.declared.dicts.DictForm.{DictForm}
use Rattle.cube_fields.proofs.ExactCells.{exact_tables}
use Rattle.cube_fields.proofs.ExactDicts.{exact_dicts}
use Rattle.step_codec.specs.Bodies.{FitsAllLoaded, FitsHolding, FitsLayer, FitsLoaded, FitsSizes, hold_all, layer_text, loaded_text, sizes_text}
use Rattle.step_codec.specs.Layouts.{IsLayout, dict_form, dict_forms, is_above_layer, parent_masks, row_limit, size_limit, table_form}
use Rattle.step_codec.specs.Reading.{all_loaded_at, has_repeat, holding_at, layer_at, loaded_at, size_at, sizes_at}
use Rattle.step_codec.specs.Tables.{TableShape}
use Rattle.step_codec.specs.declared.layout.DictColumn.{DictColumn}
use Rattle.step_codec.specs.declared.layout.Layout.{Layout}
use Rattle.step_codec.proofs.KeyFacts.{distinct, no_repeat}
use Rattle.step_codec.proofs.LayerFacts.{few_places, small_places}

not_true : (b : Bool) → not b ≡ true → b ≡ false
not_true true e = absurd cc
not_true false e = refl

exact_loaded : (t : TableShape) → Exact rows_text (FitsLoaded t) (loaded_at t)
exact_loaded t = exact_fit rows_text (λ (rows : List (List Val)). FitsRows t.columns row_limit rows × (not (has_repeat t.key rows) ≡ true)) (FitsLoaded t) (loaded_at t)
    (λ rows h. (h.0, distinct t.key rows (not_true (has_repeat t.key rows) h.1)))
    (λ rows h. (h.0, ap not (no_repeat t.key rows h.1)))
    (exact_if (λ (rows : List (List Val)). not (has_repeat t.key rows)) _ _ _ (exact_rows t.columns row_limit (omega arith)))

pub exact_all_loaded : (l : Layout) → Exact loaded_text (FitsAllLoaded l) (all_loaded_at l)
exact_all_loaded l = exact_each rows_text FitsLoaded loaded_at exact_loaded l.tables

each_limit : (limit : ℕ) (columns : List DictColumn) → limit < 2 ^ 32 → AllByRecursion (λ (form : DictForm). form.limit < 2 ^ 32) (map (dict_form limit) columns)
each_limit limit [] small = tt
each_limit limit (c ∷ columns) small = (small, each_limit limit columns small)

pub exact_holding : (l : Layout) (limit : ℕ) (rows : List (List Val)) → IsLayout l → limit < 2 ^ 32 → Exact dicts_text (FitsHolding l limit rows) (holding_at l limit rows)
exact_holding l limit rows is small =
    exact_if (hold_all l rows) dicts_text (FitsDicts (dict_forms l limit)) _ (exact_dicts (dict_forms l limit) (omega (arith, length-map l.dicts (dict_form limit), is.few_dicts)) (each_limit limit l.dicts small))

at_most : (a b : ℕ) → nat_le a b ≡ true → a ≤ b
at_most a b h = grind (arith, nat_tests)

at_most_again : (a b : ℕ) → a ≤ b → nat_le a b ≡ true
at_most_again a b h = grind (arith, nat_tests)

abbrev FitsSize : DictColumn → ℕ → Type 0
FitsSize d size = (size ≤ size_limit) × (size < 2 ^ 32)

exact_size : (d : DictColumn) → Exact id_text (FitsSize d) size_at
exact_size d = exact_fit id_text (λ (size : ℕ). (size < 2 ^ 32) × (nat_le size size_limit ≡ true)) (FitsSize d) size_at
    (λ size h. (at_most size size_limit h.1, h.0)) (λ size h. (h.1, at_most_again size size_limit h.0))
    (exact_if (λ size. nat_le size size_limit) _ (λ (size : ℕ). size < 2 ^ 32) _ (exact_number w32 (2 ^ 32) wide32))

exact_sizes : (l : Layout) → IsLayout l → Exact sizes_text (FitsSizes l) (sizes_at l)
exact_sizes l is = exact_counted id_text FitsSize (λ d. size_at) l.dicts (each_exact id_text FitsSize (λ d. size_at) exact_size l.dicts) is.few_dicts

pub exact_layer : (l : Layout) → IsLayout l → Exact layer_text (FitsLayer l) (layer_at l)
unfolding layer_at
exact_layer l is = exact_then _ _ _ (λ dims (p : List ℕ × List CellRows). sizes_text p.0 ++ tables_text p.1) _ _ (exact_number w32 (2 ^ 32) wide32)
    (λ dims h. exact_then _ _ _ (λ sizes (tables : List CellRows). tables_text tables) _ _ (exact_sizes l is)
    (λ sizes g. exact_tables (table_form l sizes 1) (parent_masks l.masks dims) (omega arith) (omega (arith, few_places (is_above_layer l.masks dims) l.masks, is.few_masks)) (small_places l.masks _ is.masks)))
