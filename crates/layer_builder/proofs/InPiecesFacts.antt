-- A cuboid of rows from those of the pieces of the rows.
use Rattle.std.proofs.Common.{◌≡◌, ◌≤◌, ◌∙◌, ℕ, List, [], ◌∷◌, ◌++◌, Ok, Err, length, map, refl, sym, ap, arith}
use Rattle.std.specs.Borrow.{Bor}
use Rattle.std.specs.Prelude.{IfOk, Result}
use Rattle.std.specs.List.{AllByRecursion, AllZip, flat_map}
use Rattle.agg_group.specs.declared.mask.Mask.{Mask}
use Rattle.cell_gather.specs.Gathers.{RowMeasure, aggregated, forms_of, gathered}
use Rattle.cell_gather.specs.Keys.{part_of}
use Rattle.cell_gather.proofs.GatherFacts.{law}
use Rattle.cell_store.specs.Cells.{CellRows, ItemsAreFew}
use Rattle.cube_val.specs.declared.val.Val.{Val}
use Rattle.measure_laws.specs.Measures.{most_items}
use Rattle.plain_answer.specs.declared.ask.Agg.{Agg}
use Rattle.layer_builder.specs.Base.{key_width}
use Rattle.layer_builder.specs.Cuboids.{IsCuboid, key_by}
use Rattle.layer_builder.proofs.BaseFacts.{forms_from}
use Rattle.layer_builder.proofs.CuboidFacts.{part_of_key}
use Rattle.layer_builder.proofs.PieceFacts.{flat_map-map, items-pieces, kinds, ms}

abbrev Piece : Type 0
Piece = Bor (List (List Val))

abbrev rows_in : Piece → List (List Val)
rows_in p = p.now

module _ (aggs : List Agg) (dicts : List (List Val)) (few_dims : key_width aggs dicts ≤ 64) (dims : Mask) where
  abbrev key : List Val → List ℕ
  key = key_by dicts dims

  abbrev measures : List (RowMeasure (List Val))
  measures = ms aggs dicts few_dims

  abbrev pub AreCuboids : List Piece → List CellRows → Type 0
  AreCuboids pieces tables = AllZip (λ (p : Piece) (t : CellRows). IsCuboid aggs dicts p.now dims t) pieces tables

  rows_of_tables : (pieces : List Piece) (tables : List CellRows) → AreCuboids pieces tables
      → flat_map (λ (t : CellRows). t.rows) tables ≡ flat_map (aggregated measures key) (map rows_in pieces)
  rows_of_tables [] [] h = refl
  rows_of_tables [] (t ∷ tables) h = absurd h
  rows_of_tables (p ∷ pieces) [] h = absurd h
  rows_of_tables (p ∷ pieces) (t ∷ tables) h = let first = h.0 in let own = first.rows in let rest = rows_of_tables pieces tables h.1 in λ i. own i ++ rest i

  pub cuboids_alike : (pieces : List Piece) (tables : List CellRows) → AreCuboids pieces tables
      → AllByRecursion (λ (t : CellRows). (t.mask ≡ dims) × (t.forms ≡ kinds aggs dicts few_dims)) tables
  cuboids_alike [] [] h = tt
  cuboids_alike [] (t ∷ tables) h = absurd h
  cuboids_alike (p ∷ pieces) [] h = absurd h
  cuboids_alike (p ∷ pieces) (t ∷ tables) h = let first = h.0 in ((first.mask, first.forms), cuboids_alike pieces tables h.1)

  pub few_in_cuboids : (pieces : List Piece) (tables : List CellRows) (flat : List (List Val)) → AreCuboids pieces tables → flat_map rows_in pieces ≡ flat → length flat ≤ most_items
      → ItemsAreFew (kinds aggs dicts few_dims) (flat_map (λ (t : CellRows). t.rows) tables)
  few_in_cuboids pieces tables flat made cut few k lt =
      let own = items-pieces measures key k (map rows_in pieces) in
      let whole : flat_map (λ rows. rows) (map rows_in pieces) ≡ flat = flat_map-map (λ rows. rows) rows_in pieces ∙ cut in
      let size : length (flat_map (λ rows. rows) (map rows_in pieces)) ≡ length flat = ap length whole in
      rw (rows_of_tables pieces tables made) (omega arith)

  -- gathering by all dimensions that are left gives the cuboid of all rows
  from_pieces : (lists : List (List (List Val)))
      → gathered (forms_of measures) (part_of dims dims) (flat_map (aggregated measures key) lists) ≡ aggregated measures key (flat_map (λ rows. rows) lists)
  from_pieces lists = law measures key (part_of dims dims) lists ∙ (λ i. aggregated measures (λ row. part_of_key dicts dims dims (λ d h. h) row i) (flat_map (λ rows. rows) lists))

  pub cuboids_joined : {E : Type 0} (pieces : List Piece) (tables : List CellRows) (flat : List (List Val)) → AreCuboids pieces tables → flat_map rows_in pieces ≡ flat → (result : Result CellRows E)
      → IfOk result (λ t. t.mask ≡ dims) → IfOk result (λ t. t.forms ≡ kinds aggs dicts few_dims)
      → IfOk result (λ t. t.rows ≡ gathered (kinds aggs dicts few_dims) (part_of dims dims) (flat_map (λ (t : CellRows). t.rows) tables)) → IfOk result (IsCuboid aggs dicts flat dims)
  cuboids_joined pieces tables flat made cut (Ok t) mask forms gives =
      let whole : flat_map (λ rows. rows) (map rows_in pieces) ≡ flat = flat_map-map (λ rows. rows) rows_in pieces ∙ cut in
      record {
        mask = mask;
        forms = forms;
        rows = gives ∙ (λ i. gathered (sym (forms_from dicts (key_width aggs dicts) aggs) i) (part_of dims dims) (rows_of_tables pieces tables made i))
            ∙ from_pieces (map rows_in pieces) ∙ ap (aggregated measures key) whole;
      }
  cuboids_joined pieces tables flat made cut (Err e) mask forms gives = tt
