-- The law of gathering, for rows of cells.
use Rattle.std.proofs.Common.{◌≡◌, ◌∙◌, ℕ, List, [], ◌∷◌, ◌++◌, map, Bool, true, false, cond, refl, sym, ap}
use Rattle.std.specs.declared.cmp.Ordering.{Ordering}
use Rattle.std.specs.Cmp.Lexicographic.{nat_list_cmp_total}
use Rattle.std.specs.List.{filter, flat_map}
use Rattle.std.specs.Ordering.{eq_by_cmp}
use Rattle.std.proofs.lemmas.List.{map-append}
use Rattle.std.proofs.lemmas.Map.Lookups.{exact_bytes}
use Rattle.aggregation.specs.Groups.{aggregate, distinct, gather, grouped, merged_all, values_at}
use Rattle.aggregation.specs.Laws.{IsExact}
use Rattle.aggregation.proofs.GroupFacts.{gather_aggregates, itself}
use Rattle.cell_store.specs.Cells.{key_cmp}
use Rattle.cell_store.specs.declared.cell.Cell.{Cell}
use Rattle.cell_gather.specs.Gathers.{RowMeasure, aggregated, cells_of, forms_of, gathered}
use Rattle.cell_gather.specs.Merges.{merged_cells, no_cells}
use Rattle.cell_gather.proofs.MergeFacts.{Values, measure_merged, merged_all-image, row_laws, rows_measure, shown, shown-merges, shown-nones, shown-values, values-none}

pub key_exact : IsExact key_cmp
key_exact x y e = exact_bytes x y e

pub map-map : {X Y Z : Type 0} (f : X → Y) (g : Y → Z) (xs : List X) → map g (map f xs) ≡ map (λ x. g (f x)) xs
map-map f g [] = refl
map-map f g (x ∷ xs) = ap (λ l. g (f x) ∷ l) (map-map f g xs)

module _ {K R Q V M : Type 0} (cmp : K → K → Ordering) (f : R → Q) (key : Q → K) (value : Q → V) (combine : List V → M) where
  values_at-map : (rows : List R) (q : K) → values_at cmp key value (map f rows) q ≡ values_at cmp (λ r. key (f r)) (λ r. value (f r)) rows q
  values_at-map [] q = refl
  values_at-map (r ∷ rows) q = by (eq_by_cmp cmp q (key (f r))) (values_at-map rows q)
    where
      by : (b : Bool) → values_at cmp key value (map f rows) q ≡ values_at cmp (λ r. key (f r)) (λ r. value (f r)) rows q
          → map value (cond b (f r ∷ filter (λ r. eq_by_cmp cmp q (key r)) (map f rows)) (filter (λ r. eq_by_cmp cmp q (key r)) (map f rows)))
          ≡ map (λ r. value (f r)) (cond b (r ∷ filter (λ r. eq_by_cmp cmp q (key (f r))) rows) (filter (λ r. eq_by_cmp cmp q (key (f r))) rows))
      by true h = ap (λ l. value (f r) ∷ l) h
      by false h = h

  -- the groups of rows that are made of others
  pub grouped-map : (rows : List R) → grouped cmp key value combine (map f rows) ≡ grouped cmp (λ r. key (f r)) (λ r. value (f r)) combine rows
  grouped-map rows = let keys = map-map f key rows in λ i. map (λ k. (k, combine (values_at-map rows k i))) (distinct cmp (keys i))

module _ {K J M N : Type 0} (cmp : J → J → Ordering) (part : K → J) (h : M → N) (none : M) (merge : M → M → M) (none' : N) (merge' : N → N → N)
    (at_none : h none ≡ none') (at_merge : (a b : M) → h (merge a b) ≡ merge' (h a) (h b)) where
  abbrev at_key : K × M → K × N
  at_key c = (c.0, h c.1)

  abbrev at_part : J × M → J × N
  at_part c = (c.0, h c.1)

  values_image : (cells : List (K × M)) (j : J)
      → merged_all none' merge' (values_at cmp (λ c. part c.0) (λ (c : K × M). h c.1) cells j) ≡ h (merged_all none merge (values_at cmp (λ c. part c.0) (λ (c : K × M). c.1) cells j))
  values_image cells j =
      let picked = filter (λ (c : K × M). eq_by_cmp cmp j (part c.0)) cells in
      ap (merged_all none' merge') (sym (map-map (λ (c : K × M). c.1) h picked)) ∙ sym (merged_all-image h none merge none' merge' at_none at_merge (map (λ (c : K × M). c.1) picked))

  -- gathering the images of cells gives the images of the gathered ones
  pub gather-image : (cells : List (K × M)) → gather cmp part none' merge' (map at_key cells) ≡ map at_part (gather cmp part none merge cells)
  gather-image cells =
      let parts = distinct cmp (map (λ (c : K × M). part c.0) cells) in
      grouped-map cmp at_key (λ (c : K × N). part c.0) (λ (c : K × N). c.1) (merged_all none' merge') cells
      ∙ (λ i. map (λ j. (j, values_image cells j i)) parts)
      ∙ sym (map-map (λ j. (j, merged_all none merge (values_at cmp (λ c. part c.0) (λ (c : K × M). c.1) cells j))) at_part parts)

flat_map-map : {X Y Z : Type 0} (g : Y → Z) (f : X → List Y) (xs : List X) → flat_map (λ x. map g (f x)) xs ≡ map g (flat_map f xs)
flat_map-map g f [] = refl
flat_map-map g f (x ∷ xs) = ap (λ l. map g (f x) ++ l) (flat_map-map g f xs) ∙ sym (map-append g (f x) (flat_map f xs))

module _ {R : Type 0} (ms : List (RowMeasure R)) where
  abbrev M : Type 0
  M = ℕ × Values (forms_of ms)

  abbrev h : M → List Cell
  h c = shown (forms_of ms) c.1

  abbrev image : List ℕ × M → List ℕ × List Cell
  image c = (c.0, h c.1)

  -- the aggregate of rows, as cells, and as the values of one measure
  pub as_cells : (key : R → List ℕ) (rows : List R) → map image (aggregate key_cmp key (λ row. row) (rows_measure ms) rows) ≡ aggregated ms key rows
  as_cells key rows =
      let keys = distinct key_cmp (map key rows) in
      map-map (λ k. (k, rows_measure ms (values_at key_cmp key (λ row. row) rows k))) image keys
      ∙ (λ i. map (λ k. (k, shown-values ms (values_at key_cmp key (λ row. row) rows k) i)) keys)

  pub law : (key : R → List ℕ) (part : List ℕ → List ℕ) (lists : List (List R))
      → gathered (forms_of ms) part (flat_map (aggregated ms key) lists) ≡ aggregated ms (λ row. part (key row)) (flat_map (λ rows. rows) lists)
  law key part lists =
      let at_none : h (rows_measure ms []) ≡ no_cells (forms_of ms) = ap (shown (forms_of ms)) (values-none ms) ∙ shown-nones (forms_of ms) in
      ap (gathered (forms_of ms) part) ((λ i. flat_map (λ rows. sym (as_cells key rows) i) lists) ∙ flat_map-map image (aggregate key_cmp key (λ row. row) (rows_measure ms)) lists)
      ∙ gather-image key_cmp part h (rows_measure ms []) (measure_merged ms) (no_cells (forms_of ms)) merged_cells at_none (λ a b. shown-merges (forms_of ms) a.1 b.1) (flat_map (aggregate key_cmp key (λ row. row) (rows_measure ms)) lists)
      ∙ ap (map image) (gather_aggregates nat_list_cmp_total key_exact nat_list_cmp_total key_exact (row_laws ms) part key (λ row. row) lists)
      ∙ as_cells (λ row. part (key row)) (flat_map (λ rows. rows) lists)

  -- a row alone
  one_row : (key : R → List ℕ) (row : R) → aggregated ms key (row ∷ []) ≡ (key row, cells_of ms (row ∷ [])) ∷ []
  one_row key row = ap (λ b. (key row, cells_of ms (map (λ r. r) (cond b (row ∷ []) []))) ∷ []) (itself nat_list_cmp_total key_exact (key row))

  rows_alone : (key : R → List ℕ) (rows : List R) → flat_map (aggregated ms key) (map (λ row. row ∷ []) rows) ≡ map (λ row. (key row, cells_of ms (row ∷ []))) rows
  rows_alone key [] = refl
  rows_alone key (row ∷ rows) = let first = one_row key row in let rest = rows_alone key rows in λ i. first i ++ rest i

  all_alone : (rows : List R) → flat_map (λ rows. rows) (map (λ row. row ∷ []) rows) ≡ rows
  all_alone [] = refl
  all_alone (row ∷ rows) = ap (λ l. row ∷ l) (all_alone rows)

  -- gathering rows, each with the cells of itself alone, gives their aggregate
  pub rows_gathered : (key : R → List ℕ) (rows : List R)
      → gathered (forms_of ms) (λ key. key) (map (λ row. (key row, cells_of ms (row ∷ []))) rows) ≡ aggregated ms key rows
  rows_gathered key rows =
      ap (gathered (forms_of ms) (λ key. key)) (sym (rows_alone key rows)) ∙ law key (λ key. key) (map (λ row. row ∷ []) rows) ∙ ap (aggregated ms key) (all_alone rows)
