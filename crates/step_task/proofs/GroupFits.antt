-- Rows of valid tables, gathered: they are the rows of a valid table again.
use Rattle.std.proofs.Common.{◌≡◌, ◌≤◌, ◌<◌, ◌+◌, ◌∙◌, ℕ, zero, suc, Bool, true, false, cond, List, [], ◌∷◌, length, length-append, Some, None, map, refl, sym, ap, subst, arith}
use Rattle.std.specs.Prelude.{ℤ, filter, int_le, slice_get, slice_index_or, sum, sum_by, unwrap_or, pos, ◌≤ℤ◌, ◌&&◌, ◌||◌}
use Rattle.std.specs.Int.{int_max, int_min}
use Rattle.std.specs.List.{AllByRecursion, list_all, list_any}
use Rattle.std.specs.Ordering.{eq_by_cmp}
use Rattle.std.specs.Cmp.Lexicographic.{nat_list_cmp_total}
use Rattle.std.proofs.lemmas.Int.{clamps, ints}
use Rattle.std.proofs.lemmas.List.Sums.{sum-map, sum_by-append, sum_by-cons}
use Rattle.agg_group.specs.declared.mask.Mask.{Mask}
use Rattle.agg_group.specs.Mask.{IsWithin, has}
use Rattle.agg_group.specs.Sets.{dimensions}
use Rattle.aggregation.specs.Groups.{distinct, grouped, merged_all, values_at}
use Rattle.aggregation.proofs.GroupFacts.{all_grouped, itself, merged_aggregate, rises-grouped, tied}
use Rattle.byte_frame.specs.Spelling.{EachFits}
use Rattle.cell_gather.specs.Gathers.{gathered}
use Rattle.cell_gather.specs.Keys.{dims_of, kept_numbers, part_of}
use Rattle.cell_gather.specs.Merges.{merged_cells}
use Rattle.cell_gather.proofs.GatherFacts.{key_exact}
use Rattle.cell_gather.proofs.TableFacts.{sum_mapped}
use Rattle.cell_store.specs.Cells.{key_cmp, merged_cell, no_cell}
use Rattle.cell_store.specs.declared.cell.Cell.{Cell}
use Rattle.cell_store.specs.declared.cell.Cell.TheVariants.{Count, Min, Max}
use Rattle.cube_fields.specs.Cells.{FitsCell, FitsCells, FitsForm, FitsId, FitsRow, FitsTable, are_ordered, count_in, dims_in, measures_of, sizes_in, value_in}
use Rattle.cube_fields.specs.declared.forms.CellField.{CellField}
use Rattle.measure_laws.specs.declared.measure.MeasureForm.{MeasureForm}
use Rattle.measure_laws.specs.declared.measure.MeasureForm.TheVariants as measure
use Rattle.cube_fields.specs.declared.forms.Extremes.{Extremes}
use Rattle.cube_fields.specs.declared.forms.CellTableForm.{CellTableForm}
use Rattle.measure_laws.specs.Extremes.{Extreme, greatest_of, least_of, picked}
use Rattle.measure_laws.specs.Measures.{MeasureLaws}
use Rattle.step_task.proofs.CellFits.{HasCell, cells_have, cells_merge, form_in, none_have}

abbrev pub Row : Type 0
Row = List ℕ × List Cell

-- ---- cells of a group

abbrev HasCells : ℕ → List CellField → List Cell → Type 0
HasCells n fs (Count k ∷ cells) = (k ≡ n) × EachFits (HasCell n) fs cells
HasCells n fs cells = ⊥

abbrev AreCells : ℕ → List CellField → List Cell → Type 0
AreCells n fs (Count k ∷ cells) = (k ≡ n) × EachFits (FitsCell n) fs cells
AreCells n fs cells = ⊥

has_cells : (n : ℕ) (fs : List CellField) (cells : List Cell) → AreCells n fs cells → HasCells n fs cells
has_cells n fs [] h = absurd h
has_cells n fs (Count k ∷ cells) h = (h.0, cells_have n fs cells h.1)
has_cells n fs (c ∷ cells) h = absurd h

are_cells : (most : ℕ) (fs : List CellField) (cells : List Cell) → FitsCells most fs cells → AreCells (count_in cells) fs cells × (1 ≤ count_in cells)
are_cells most fs [] h = absurd h
are_cells most fs (Count n ∷ cells) h = ((refl, h.1), h.0.0)
are_cells most fs (c ∷ cells) h = absurd h

fits_cells : (most n : ℕ) (fs : List CellField) (cells : List Cell) → AreCells n fs cells → 1 ≤ n → n ≤ most → FitsCells most fs cells
fits_cells most n fs [] h some few = absurd h
fits_cells most n fs (Count k ∷ cells) h some few = ((omega (arith, h.0), omega (arith, h.0)), subst (λ m. EachFits (FitsCell m) fs cells) (sym h.0) h.1)
fits_cells most n fs (c ∷ cells) h some few = absurd h

counted : (n : ℕ) (fs : List CellField) (cells : List Cell) → HasCells n fs cells → count_in cells ≡ n
counted n fs [] h = absurd h
counted n fs (Count k ∷ cells) h = h.0
counted n fs (c ∷ cells) h = absurd h

merge_counted : (n m k : ℕ) (fs : List CellField) (xs ys : List Cell) → k ≡ n → EachFits (FitsCell n) fs xs → HasCells m fs ys → AreCells (n + m) fs (merged_cells (Count k ∷ xs) ys)
merge_counted n m k fs xs [] e h g = absurd g
merge_counted n m k fs xs (Count j ∷ ys) e h g = (omega (arith, e, g.0), cells_merge n m fs xs ys h g.1)
merge_counted n m k fs xs (c ∷ ys) e h g = absurd g

merge_front : (n m : ℕ) (fs : List CellField) (xs ys : List Cell) → AreCells n fs xs → HasCells m fs ys → AreCells (n + m) fs (merged_cells xs ys)
merge_front n m fs [] ys h k = absurd h
merge_front n m fs (Count j ∷ xs) ys h k = merge_counted n m j fs xs ys h.0 h.1 k
merge_front n m fs (c ∷ xs) ys h k = absurd h

abbrev pub merged : List CellField → List (List Cell) → List Cell
merged fs rows = merged_all (Count 0 ∷ map no_cell (map form_in fs)) merged_cells rows

group_has : (most : ℕ) (fs : List CellField) (rows : List (List Cell)) → AllByRecursion (FitsCells most fs) rows → HasCells (sum_by count_in rows) fs (merged fs rows)
group_has most fs [] all = (refl, none_have fs)
group_has most fs (c ∷ rows) all =
    subst (λ n. HasCells n fs (merged fs (c ∷ rows))) (sym (sum_by-cons count_in c rows))
    (has_cells (count_in c + sum_by count_in rows) fs (merged fs (c ∷ rows))
    (merge_front (count_in c) (sum_by count_in rows) fs c (merged fs rows) (are_cells most fs c all.0).0 (group_has most fs rows all.1)))

group_are : (most : ℕ) (fs : List CellField) (c : List Cell) (rows : List (List Cell)) → FitsCells most fs c → AllByRecursion (FitsCells most fs) rows
    → AreCells (count_in c + sum_by count_in rows) fs (merged fs (c ∷ rows))
group_are most fs c rows one all = merge_front (count_in c) (sum_by count_in rows) fs c (merged fs rows) (are_cells most fs c one).0 (group_has most fs rows all)

pub group_fits : (most : ℕ) (fs : List CellField) (rows : List (List Cell)) → 0 < length rows → AllByRecursion (FitsCells most fs) rows → sum_by count_in rows ≤ most → FitsCells most fs (merged fs rows)
group_fits most fs [] some all few = absurd (omega arith)
group_fits most fs (c ∷ rows) some all few =
    let sums = sum_by-cons count_in c rows in
    fits_cells most (count_in c + sum_by count_in rows) fs (merged fs (c ∷ rows)) (group_are most fs c rows all.0 all.1) (omega (arith, (are_cells most fs c all.0).1)) (omega (arith, few, sums))

-- ---- the least and the greatest value of a group

-- the places are those of a least and of a greatest value
pub record AreExtremes (fs : List CellField) (e : Extremes) : Type 0 where
  pub least : ℕ
  pub greatest : ℕ
  pub at_least : e.least ≡ suc least
  pub at_greatest : e.greatest ≡ suc greatest
  pub is_least : slice_get (map form_in fs) least ≡ Some measure.Min
  pub is_greatest : slice_get (map form_in fs) greatest ≡ Some measure.Max

-- a value at a place
record IsAt (cells : List Cell) (i : ℕ) (of : Extreme → Cell) (v : ℤ) : Type 0 where
  at : Extreme
  is : slice_get cells i ≡ Some (of at)
  value : at.value ≡ Some v

least_form : (n size : ℕ) (c : Cell) → FitsForm n size measure.Min c → (v : ℤ) × ((s : Extreme) × ((c ≡ Min s) × (s.value ≡ Some v)))
least_form n size (Min s) h = (h.1.0, (s, (refl, h.1.1.0)))
least_form n size c h = absurd h

least_cell : (n : ℕ) (f : CellField) (c : Cell) → f.form ≡ measure.Min → FitsCell n f c → (v : ℤ) × ((s : Extreme) × ((c ≡ Min s) × (s.value ≡ Some v)))
least_cell n f c e h = least_form n f.size c (subst (λ (g : MeasureForm). FitsForm n f.size g c) e h)

greatest_form : (n size : ℕ) (c : Cell) → FitsForm n size measure.Max c → (v : ℤ) × ((s : Extreme) × ((c ≡ Max s) × (s.value ≡ Some v)))
greatest_form n size (Max s) h = (h.1.0, (s, (refl, h.1.1.0)))
greatest_form n size c h = absurd h

greatest_cell : (n : ℕ) (f : CellField) (c : Cell) → f.form ≡ measure.Max → FitsCell n f c → (v : ℤ) × ((s : Extreme) × ((c ≡ Max s) × (s.value ≡ Some v)))
greatest_cell n f c e h = greatest_form n f.size c (subst (λ (g : MeasureForm). FitsForm n f.size g c) e h)

least_there : (n : ℕ) (fs : List CellField) (cells : List Cell) (i : ℕ) → EachFits (FitsCell n) fs cells → slice_get (map form_in fs) i ≡ Some measure.Min → (v : ℤ) × IsAt cells i Min v
least_there n [] cells i h e = absurd cc
least_there n (f ∷ fs) [] i h e = absurd h
least_there n (f ∷ fs) (c ∷ cells) zero h e =
    let same : f.form ≡ measure.Min = cc in
    let own = least_cell n f c same h.0 in
    (own.0, record { at = own.1.0; is = ap Some own.1.1.0; value = own.1.1.1 })
least_there n (f ∷ fs) (c ∷ cells) (suc i) h e = let own = least_there n fs cells i h.1 e in (own.0, record { at = own.1.at; is = own.1.is; value = own.1.value })

greatest_there : (n : ℕ) (fs : List CellField) (cells : List Cell) (i : ℕ) → EachFits (FitsCell n) fs cells → slice_get (map form_in fs) i ≡ Some measure.Max → (v : ℤ) × IsAt cells i Max v
greatest_there n [] cells i h e = absurd cc
greatest_there n (f ∷ fs) [] i h e = absurd h
greatest_there n (f ∷ fs) (c ∷ cells) zero h e =
    let same : f.form ≡ measure.Max = cc in
    let own = greatest_cell n f c same h.0 in
    (own.0, record { at = own.1.0; is = ap Some own.1.1.0; value = own.1.1.1 })
greatest_there n (f ∷ fs) (c ∷ cells) (suc i) h e = let own = greatest_there n fs cells i h.1 e in (own.0, record { at = own.1.at; is = own.1.is; value = own.1.value })

merged_at : (xs ys : List Cell) (i : ℕ) (a b : Cell) → slice_get xs i ≡ Some a → slice_get ys i ≡ Some b → slice_get (merged_cells xs ys) i ≡ Some (merged_cell a b)
merged_at [] ys i a b e g = absurd cc
merged_at (x ∷ xs) [] i a b e g = absurd cc
merged_at (x ∷ xs) (y ∷ ys) zero a b e g = let p : x ≡ a = cc in let q : y ≡ b = cc in λ j. Some (merged_cell (p j) (q j))
merged_at (x ∷ xs) (y ∷ ys) (suc i) a b e g = merged_at xs ys i a b e g

-- the least value at one place, and the greatest at another
record Ends (i j : ℕ) (cells : List Cell) (low high : ℤ) : Type 0 where
  lower : Extreme
  upper : Extreme
  lower_at : slice_get cells i ≡ Some (Min lower)
  upper_at : slice_get cells j ≡ Some (Max upper)
  low_is : lower.value ≡ Some low
  high_is : upper.value ≡ Some high

no_more : (a b : ℤ) → int_le a b ≡ true → a ≤ℤ b
no_more a b e = grind (arith, ints)

no_more_again : (a b : ℤ) → a ≤ℤ b → int_le a b ≡ true
no_more_again a b h = grind (arith, ints)

ends_ordered : (fs : List CellField) (e : Extremes) (x : AreExtremes fs e) (cells : List Cell) (low high : ℤ) → Ends (suc x.least) (suc x.greatest) cells low high
    → are_ordered cells e ≡ int_le low high
ends_ordered fs e x cells low high h =
    let a : value_in (slice_get cells e.least) ≡ low = ap (λ k. value_in (slice_get cells k)) x.at_least ∙ ap value_in h.lower_at ∙ ap (λ o. unwrap_or o (pos 0)) h.low_is in
    let b : value_in (slice_get cells e.greatest) ≡ high = ap (λ k. value_in (slice_get cells k)) x.at_greatest ∙ ap value_in h.upper_at ∙ ap (λ o. unwrap_or o (pos 0)) h.high_is in
    λ k. int_le (a k) (b k)

-- the ends of a row
row_ends : (n : ℕ) (fs : List CellField) (e : Extremes) (x : AreExtremes fs e) (cells : List Cell) → AreCells n fs cells → (low : ℤ) × ((high : ℤ) × Ends (suc x.least) (suc x.greatest) cells low high)
row_ends n fs e x [] h = absurd h
row_ends n fs e x (Count k ∷ cells) h =
    let a = least_there n fs cells x.least h.1 x.is_least in
    let b = greatest_there n fs cells x.greatest h.1 x.is_greatest in
    (a.0, (b.0, record { lower = a.1.at; upper = b.1.at; lower_at = a.1.is; upper_at = b.1.is; low_is = a.1.value; high_is = b.1.value }))
row_ends n fs e x (c ∷ cells) h = absurd h

none_at : (forms : List MeasureForm) (i : ℕ) (f : MeasureForm) → slice_get forms i ≡ Some f → slice_get (map no_cell forms) i ≡ Some (no_cell f)
none_at [] i f e = absurd cc
none_at (g ∷ forms) zero f e = let same : g ≡ f = cc in ap (λ h. Some (no_cell h)) same
none_at (g ∷ forms) (suc i) f e = none_at forms i f e

-- the ends of a row alone are those of its group
alone_ends : (fs : List CellField) (e : Extremes) (x : AreExtremes fs e) (cells : List Cell) (low high : ℤ) → Ends (suc x.least) (suc x.greatest) cells low high
    → Ends (suc x.least) (suc x.greatest) (merged fs (cells ∷ [])) low high
alone_ends fs e x cells low high h =
    let none : List Cell = Count 0 ∷ map no_cell (map form_in fs) in
    let at_low = merged_at cells none (suc x.least) (Min h.lower) (Min (least_of [])) h.lower_at (none_at (map form_in fs) x.least measure.Min x.is_least) in
    let at_high = merged_at cells none (suc x.greatest) (Max h.upper) (Max (greatest_of [])) h.upper_at (none_at (map form_in fs) x.greatest measure.Max x.is_greatest) in
    record {
      lower = record { items = h.lower.items + 0; value = picked int_min h.lower.value None };
      upper = record { items = h.upper.items + 0; value = picked int_max h.upper.value None };
      lower_at = at_low;
      upper_at = at_high;
      low_is = ap (λ o. picked int_min o None) h.low_is;
      high_is = ap (λ o. picked int_max o None) h.high_is;
    }

joined_ends : (i j : ℕ) (xs ys : List Cell) (low high low' high' : ℤ) → Ends i j xs low high → Ends i j ys low' high' → Ends i j (merged_cells xs ys) (int_min low low') (int_max high high')
joined_ends i j xs ys low high low' high' h k = record {
  lower = record { items = h.lower.items + k.lower.items; value = picked int_min h.lower.value k.lower.value };
  upper = record { items = h.upper.items + k.upper.items; value = picked int_max h.upper.value k.upper.value };
  lower_at = merged_at xs ys i (Min h.lower) (Min k.lower) h.lower_at k.lower_at;
  upper_at = merged_at xs ys j (Max h.upper) (Max k.upper) h.upper_at k.upper_at;
  low_is = λ t. picked int_min (h.low_is t) (k.low_is t);
  high_is = λ t. picked int_max (h.high_is t) (k.high_is t);
}

between : (low high low' high' : ℤ) → low ≤ℤ high → low' ≤ℤ high' → int_min low low' ≤ℤ int_max high high'
between low high low' high' h k = omega (arith, ints, clamps)

abbrev OrderedAt : Extremes → List Cell → Type 0
OrderedAt e cells = are_ordered cells e ≡ true

group_ends : (most : ℕ) (fs : List CellField) (e : Extremes) (x : AreExtremes fs e) (c : List Cell) (rows : List (List Cell)) → FitsCells most fs c → AllByRecursion (FitsCells most fs) rows
    → OrderedAt e c → AllByRecursion (OrderedAt e) rows
    → (low : ℤ) × ((high : ℤ) × (Ends (suc x.least) (suc x.greatest) (merged fs (c ∷ rows)) low high × (low ≤ℤ high)))
group_ends most fs e x c [] one all up ups =
    let own = row_ends (count_in c) fs e x c (are_cells most fs c one).0 in
    let less = no_more own.0 own.1.0 (sym (ends_ordered fs e x c own.0 own.1.0 own.1.1) ∙ up) in
    (own.0, (own.1.0, (alone_ends fs e x c own.0 own.1.0 own.1.1, less)))
group_ends most fs e x c (d ∷ rows) one all up ups =
    let own = row_ends (count_in c) fs e x c (are_cells most fs c one).0 in
    let less = no_more own.0 own.1.0 (sym (ends_ordered fs e x c own.0 own.1.0 own.1.1) ∙ up) in
    let rest = group_ends most fs e x d rows all.0 all.1 ups.0 ups.1 in (
      int_min own.0 rest.0,
      (
        int_max own.1.0 rest.1.0,
        (
          joined_ends (suc x.least) (suc x.greatest) c (merged fs (d ∷ rows)) own.0 own.1.0 rest.0 rest.1.0 own.1.1 rest.1.1.0,
          between own.0 own.1.0 rest.0 rest.1.0 less rest.1.1.1,
        ),
      ),
    )

group_ordered_at : (most : ℕ) (fs : List CellField) (e : Extremes) → AreExtremes fs e → (rows : List (List Cell)) → 0 < length rows → AllByRecursion (FitsCells most fs) rows → AllByRecursion (OrderedAt e) rows
    → are_ordered (merged fs rows) e ≡ true
group_ordered_at most fs e x [] some all ups = absurd (omega arith)
group_ordered_at most fs e x (c ∷ rows) some all ups =
    let own = group_ends most fs e x c rows all.0 all.1 ups.0 ups.1 in
    ends_ordered fs e x (merged fs (c ∷ rows)) own.0 own.1.0 own.1.1.0 ∙ no_more_again own.0 own.1.0 own.1.1.1

pub both_parts : (a b : Bool) → (a && b) ≡ true → (a ≡ true) × (b ≡ true)
both_parts true b e = (refl, e)
both_parts false b e = absurd cc

both : (a b : Bool) → a ≡ true → b ≡ true → (a && b) ≡ true
both a b e g = cc

abbrev pub Ordered : List Extremes → List Cell → Type 0
Ordered es cells = list_all (are_ordered cells) es ≡ true

first_ordered : (e : Extremes) (es : List Extremes) (rows : List (List Cell)) → AllByRecursion (Ordered (e ∷ es)) rows → AllByRecursion (OrderedAt e) rows × AllByRecursion (Ordered es) rows
first_ordered e es [] all = (tt, tt)
first_ordered e es (c ∷ rows) all =
    let own = both_parts (are_ordered c e) (list_all (are_ordered c) es) all.0 in
    let rest = first_ordered e es rows all.1 in
    ((own.0, rest.0), (own.1, rest.1))

group_ordered : (most : ℕ) (fs : List CellField) (es : List Extremes) → AllByRecursion (AreExtremes fs) es → (rows : List (List Cell)) → 0 < length rows → AllByRecursion (FitsCells most fs) rows
    → AllByRecursion (Ordered es) rows → Ordered es (merged fs rows)
group_ordered most fs [] xs rows some all ups = refl
group_ordered most fs (e ∷ es) xs rows some all ups =
    let parts = first_ordered e es rows ups in
    both (are_ordered (merged fs rows) e) (list_all (are_ordered (merged fs rows)) es) (group_ordered_at most fs e xs.0 rows some all parts.0) (group_ordered most fs es xs.1 rows some all parts.1)

-- ---- keys

module _ (w p : ℕ → Bool) (size : ℕ → ℕ) where
  abbrev Whole : List ℕ → List ℕ → Type 0
  Whole ds key = EachFits FitsId (map size ds) key

  abbrev Part : List ℕ → List Bool → List ℕ → Type 0
  Part ds keeps key = EachFits FitsId (map size ds) (kept_numbers keeps key)

  kept_front : (d : ℕ) (ds ps key : List ℕ) → Whole (d ∷ ds) key → ((key : List ℕ) → Whole ds key → Part ps (map p ds) key) → Part (d ∷ ps) (true ∷ map p ds) key
  kept_front d ds ps [] h rest = absurd h
  kept_front d ds ps (id ∷ key) h rest = (h.0, rest key h.1)

  left_front : (d : ℕ) (ds ps key : List ℕ) → Whole (d ∷ ds) key → ((key : List ℕ) → Whole ds key → Part ps (map p ds) key) → Part ps (false ∷ map p ds) key
  left_front d ds ps [] h rest = absurd h
  left_front d ds ps (id ∷ key) h rest = rest key h.1

  part_step : (d : ℕ) (ds key : List ℕ) (a b : Bool) → w d ≡ a → p d ≡ b → (p d ≡ true → w d ≡ true) → Whole (filter w (d ∷ ds)) key
      → ((key : List ℕ) → Whole (filter w ds) key → Part (filter p ds) (map p (filter w ds)) key) → Part (filter p (d ∷ ds)) (map p (filter w (d ∷ ds))) key
  part_step d ds key true true e g within h rest =
      let ws : filter w (d ∷ ds) ≡ d ∷ filter w ds = ap (λ b. cond b (d ∷ filter w ds) (filter w ds)) e in
      let ps : filter p (d ∷ ds) ≡ d ∷ filter p ds = ap (λ b. cond b (d ∷ filter p ds) (filter p ds)) g in
      let own = kept_front d (filter w ds) (filter p ds) key (subst (λ l. Whole l key) ws h) rest in
      subst (λ l. Part l (map p (filter w (d ∷ ds))) key) (sym ps) (subst (λ l. Part (d ∷ filter p ds) (map p l) key) (sym ws) (subst (λ b. Part (d ∷ filter p ds) (b ∷ map p (filter w ds)) key) (sym g) own))
  part_step d ds key true false e g within h rest =
      let ws : filter w (d ∷ ds) ≡ d ∷ filter w ds = ap (λ b. cond b (d ∷ filter w ds) (filter w ds)) e in
      let ps : filter p (d ∷ ds) ≡ filter p ds = ap (λ b. cond b (d ∷ filter p ds) (filter p ds)) g in
      let own = left_front d (filter w ds) (filter p ds) key (subst (λ l. Whole l key) ws h) rest in
      subst (λ l. Part l (map p (filter w (d ∷ ds))) key) (sym ps) (subst (λ l. Part (filter p ds) (map p l) key) (sym ws) (subst (λ b. Part (filter p ds) (b ∷ map p (filter w ds)) key) (sym g) own))
  part_step d ds key false true e g within h rest = absurd (let f = within g in cc)
  part_step d ds key false false e g within h rest =
      let ws : filter w (d ∷ ds) ≡ filter w ds = ap (λ b. cond b (d ∷ filter w ds) (filter w ds)) e in
      let ps : filter p (d ∷ ds) ≡ filter p ds = ap (λ b. cond b (d ∷ filter p ds) (filter p ds)) g in
      let own = rest key (subst (λ l. Whole l key) ws h) in
      subst (λ l. Part l (map p (filter w (d ∷ ds))) key) (sym ps) (subst (λ l. Part (filter p ds) (map p l) key) (sym ws) own)

  part_fits : ((d : ℕ) → p d ≡ true → w d ≡ true) → (ds key : List ℕ) → Whole (filter w ds) key → Part (filter p ds) (map p (filter w ds)) key
  part_fits within [] [] h = tt
  part_fits within [] (id ∷ key) h = absurd h
  part_fits within (d ∷ ds) key h = part_step d ds key (w d) (p d) refl refl (within d) h (λ k g. part_fits within ds k g)

-- the part of a key fits the sizes of its dimensions
key_fits : (whole part : Mask) (sizes key : List ℕ) → IsWithin part whole → EachFits FitsId (sizes_in sizes whole) key → EachFits FitsId (sizes_in sizes part) (part_of whole part key)
unfolding sizes_in dims_in dims_of
key_fits whole part sizes key within h = part_fits (has whole) (has part) (λ d. slice_index_or sizes d 0) within (dimensions 64) key h

-- ---- groups

-- how many numbers there are, and their sum
abbrev weighed : List ℕ → ℕ × ℕ
weighed xs = (length xs, sum xs)

abbrev weighed_together : ℕ × ℕ → ℕ × ℕ → ℕ × ℕ
weighed_together a b = (a.0 + b.0, a.1 + b.1)

weighing : MeasureLaws (λ (m : ℕ × ℕ). m.0) weighed weighed_together
weighing = record {
  associative = λ a b c. let p : (a.0 + b.0) + c.0 ≡ a.0 + (b.0 + c.0) = omega arith in let q : (a.1 + b.1) + c.1 ≡ a.1 + (b.1 + c.1) = omega arith in λ i. (p i, q i);
  commutative = λ a b. let p : a.0 + b.0 ≡ b.0 + a.0 = omega arith in let q : a.1 + b.1 ≡ b.1 + a.1 = omega arith in λ i. (p i, q i);
  neutral = λ a. let p : 0 + a.0 ≡ a.0 = omega arith in let q : 0 + a.1 ≡ a.1 = omega arith in λ i. (p i, q i);
  joined = λ xs ys. let p = length-append xs ys in let q = sum_by-append (λ x. x) xs ys in λ i. (p i, q i);
  counted = λ xs. refl;
  counts_add = λ a b. refl;
}

second_of : (ms : List (ℕ × ℕ)) → (merged_all (weighed []) weighed_together ms).1 ≡ sum_by (λ (m : ℕ × ℕ). m.1) ms
second_of [] = refl
second_of (m ∷ ms) = ap (λ n. m.1 + n) (second_of ms) ∙ sym (sum_by-cons (λ (m : ℕ × ℕ). m.1) m ms)

module _ (key : Row → List ℕ) where
  abbrev pub in_group : List ℕ → Row → Bool
  in_group k row = eq_by_cmp key_cmp k (key row)

  abbrev pub cells_at : List Row → List ℕ → List (List Cell)
  cells_at rows k = values_at key_cmp key (λ (row : Row). row.1) rows k

  pub kept : (P : List Cell → Type 0) (k : List ℕ) (rows : List Row) → AllByRecursion (λ (row : Row). P row.1) rows → AllByRecursion P (cells_at rows k)
  kept P k [] all = tt
  kept P k (row ∷ rows) all = by (in_group k row) (kept P k rows all.1) where
    by : (b : Bool) → AllByRecursion P (cells_at rows k) → AllByRecursion P (map (λ (row : Row). row.1) (cond b (row ∷ filter (in_group k) rows) (filter (in_group k) rows)))
    by true rest = (all.0, rest)
    by false rest = rest

  pub some_kept : (k : List ℕ) (rows : List Row) → list_any (in_group k) rows ≡ true → 0 < length (cells_at rows k)
  some_kept k [] e = absurd cc
  some_kept k (row ∷ rows) e = by (in_group k row) e (some_kept k rows) where
    by : (b : Bool) → (b || list_any (in_group k) rows) ≡ true → (list_any (in_group k) rows ≡ true → 0 < length (cells_at rows k))
        → 0 < length (map (λ (row : Row). row.1) (cond b (row ∷ filter (in_group k) rows) (filter (in_group k) rows)))
    by true e rest = omega arith
    by false e rest = rest e

  pub few_kept : (k : List ℕ) (rows : List Row) → sum_by count_in (cells_at rows k) ≤ sum_by (λ (row : Row). count_in row.1) rows
  few_kept k [] = omega arith
  few_kept k (row ∷ rows) = by (in_group k row) (few_kept k rows) where
    by : (b : Bool) → sum_by count_in (cells_at rows k) ≤ sum_by (λ (row : Row). count_in row.1) rows
        → sum_by count_in (map (λ (row : Row). row.1) (cond b (row ∷ filter (in_group k) rows) (filter (in_group k) rows))) ≤ sum_by (λ (row : Row). count_in row.1) (row ∷ rows)
    by true rest = omega (arith, rest, sum_by-cons count_in row.1 (cells_at rows k), sum_by-cons (λ (r : Row). count_in r.1) row rows)
    by false rest = omega (arith, rest, sum_by-cons (λ (r : Row). count_in r.1) row rows)

  -- the key of each row is one of the groups
  found_itself : (rows : List Row) → AllByRecursion (λ (row : Row). list_any (in_group (key row)) rows ≡ true) rows
  found_itself rows = each rows (λ q h. h) where
    each : (some : List Row) → ((q : List ℕ) → list_any (in_group q) some ≡ true → list_any (in_group q) rows ≡ true) → AllByRecursion (λ (row : Row). list_any (in_group (key row)) rows ≡ true) some
    each [] among = tt
    each (row ∷ some) among =
        let own : list_any (in_group (key row)) (row ∷ some) ≡ true = ap (λ b. b || list_any (in_group (key row)) some) (itself nat_list_cmp_total key_exact (key row)) in
        (among (key row) own, each some (λ q h. among q (later (in_group q row) (list_any (in_group q) some) h)))
      where
        later : (a b : Bool) → b ≡ true → (a || b) ≡ true
        later true b e = refl
        later false b e = e

  groups_are : (P : List ℕ × List Cell → Type 0) (fs : List CellField) (rows : List Row) (ks : List (List ℕ))
      → ((k : List ℕ) → list_any (in_group k) rows ≡ true → P (k, merged fs (cells_at rows k)))
      → AllByRecursion (λ (e : Row). list_any (in_group e.0) rows ≡ true) (map (λ k. (k, merged fs (cells_at rows k))) ks) → AllByRecursion P (map (λ k. (k, merged fs (cells_at rows k))) ks)
  groups_are P fs rows [] each all = tt
  groups_are P fs rows (k ∷ ks) each all = (each k all.0, groups_are P fs rows ks each all.1)

  -- what holds of the group of each key that a row has holds of all groups
  pub all_groups : (P : Row → Type 0) (fs : List CellField) (rows : List Row) → ((k : List ℕ) → list_any (in_group k) rows ≡ true → P (k, merged fs (cells_at rows k)))
      → AllByRecursion P (grouped key_cmp key (λ (row : Row). row.1) (merged fs) rows)
  all_groups P fs rows each =
      groups_are P fs rows (distinct key_cmp (map key rows)) each
      (all_grouped nat_list_cmp_total key_exact (λ k. list_any (in_group k) rows ≡ true) key (λ (row : Row). row.1) (merged fs) rows (found_itself rows))

  key_found : (P : List ℕ → Type 0) (k : List ℕ) (rows : List Row) → AllByRecursion (λ (row : Row). P (key row)) rows → list_any (in_group k) rows ≡ true → P k
  key_found P k [] all e = absurd cc
  key_found P k (row ∷ rows) all e = by (in_group k row) refl e (key_found P k rows all.1) where
    by : (b : Bool) → in_group k row ≡ b → (b || list_any (in_group k) rows) ≡ true → (list_any (in_group k) rows ≡ true → P k) → P k
    by true is e rest = subst P (sym (tied nat_list_cmp_total key_exact k (key row) is)) all.0
    by false is e rest = rest e

  -- ---- how many rows the groups count

  abbrev weight : Row → ℕ
  weight row = count_in row.1

  weights_at : List Row → List ℕ → List ℕ
  weights_at rows k = values_at key_cmp key weight rows k

  group_counts : (most : ℕ) (fs : List CellField) (rows : List Row) (k : List ℕ) → AllByRecursion (λ (row : Row). FitsCells most fs row.1) rows
      → count_in (merged fs (cells_at rows k)) ≡ sum (weights_at rows k)
  unfolding weights_at
  group_counts most fs rows k all =
      let own = filter (in_group k) rows in
      counted (sum_by count_in (cells_at rows k)) fs (merged fs (cells_at rows k)) (group_has most fs (cells_at rows k) (kept (FitsCells most fs) k rows all))
      ∙ sum_mapped count_in (λ (row : Row). row.1) own ∙ sym (sum-map weight own)

  groups_count : (most : ℕ) (fs : List CellField) (rows : List Row) (ks : List (List ℕ)) → AllByRecursion (λ (row : Row). FitsCells most fs row.1) rows
      → sum_by weight (map (λ k. (k, merged fs (cells_at rows k))) ks) ≡ sum_by (λ (m : ℕ × ℕ). m.1) (map (λ (c : List ℕ × (ℕ × ℕ)). c.1) (map (λ k. (k, weighed (weights_at rows k))) ks))
  groups_count most fs rows [] all = refl
  groups_count most fs rows (k ∷ ks) all =
      let one = group_counts most fs rows k all in
      let rest = groups_count most fs rows ks all in
      let left = sum_by-cons weight (k, merged fs (cells_at rows k)) (map (λ k. (k, merged fs (cells_at rows k))) ks) in
      let right = sum_by-cons (λ (m : ℕ × ℕ). m.1) (weighed (weights_at rows k)) (map (λ (c : List ℕ × (ℕ × ℕ)). c.1) (map (λ k. (k, weighed (weights_at rows k))) ks)) in
      left ∙ (λ i. one i + rest i) ∙ sym right

  all_counted : (most : ℕ) (fs : List CellField) (rows : List Row) → AllByRecursion (λ (row : Row). FitsCells most fs row.1) rows
      → sum_by weight (grouped key_cmp key (λ (row : Row). row.1) (merged fs) rows) ≡ sum_by weight rows
  unfolding weights_at
  all_counted most fs rows all =
      let ks = distinct key_cmp (map key rows) in
      groups_count most fs rows ks all
      ∙ sym (second_of (map (λ (c : List ℕ × (ℕ × ℕ)). c.1) (map (λ k. (k, weighed (weights_at rows k))) ks)))
      ∙ ap (λ (m : ℕ × ℕ). m.1) (merged_aggregate nat_list_cmp_total key_exact weighing key weight rows)
      ∙ sum-map weight rows

-- ---- tables

row_cells : (sizes : List ℕ) (f : CellTableForm) (rows : List Row) → AllByRecursion (FitsRow sizes f) rows → AllByRecursion (λ (row : Row). FitsCells f.most f.cells row.1) rows
row_cells sizes f [] all = tt
row_cells sizes f (row ∷ rows) all = (all.0.cells, row_cells sizes f rows all.1)

row_order : (sizes : List ℕ) (f : CellTableForm) (rows : List Row) → AllByRecursion (FitsRow sizes f) rows → AllByRecursion (λ (row : Row). Ordered f.extremes row.1) rows
row_order sizes f [] all = tt
row_order sizes f (row ∷ rows) all = (all.0.ordered, row_order sizes f rows all.1)

-- rows that fit but for their keys, in groups by any key that fits, are a valid table
pub grouped_fits : (f : CellTableForm) (part : Mask) (key : Row → List ℕ) (rows : List Row) → AllByRecursion (λ (row : Row). EachFits FitsId (sizes_in f.sizes part) (key row)) rows
    → AllByRecursion (λ (row : Row). FitsCells f.most f.cells row.1) rows → AllByRecursion (λ (row : Row). Ordered f.extremes row.1) rows
    → sum_by (λ (row : Row). count_in row.1) rows ≤ f.most → AllByRecursion (AreExtremes f.cells) f.extremes
    → FitsTable f part (record { mask = part; forms = measures_of f; rows = grouped key_cmp key (λ (row : Row). row.1) (merged f.cells) rows })
grouped_fits f part key rows keys cells order few extremes = record {
  mask = refl;
  measures = refl;
  rows = all_groups key (FitsRow (sizes_in f.sizes part) f) f.cells rows (λ k found. record {
    key = key_found key (EachFits FitsId (sizes_in f.sizes part)) k rows keys found;
    cells = group_fits f.most f.cells (cells_at key rows k) (some_kept key k rows found) (kept key (FitsCells f.most f.cells) k rows cells) (omega (arith, few_kept key k rows, few));
    ordered = group_ordered f.most f.cells f.extremes extremes (cells_at key rows k) (some_kept key k rows found) (kept key (FitsCells f.most f.cells) k rows cells) (kept key (Ordered f.extremes) k rows order);
  });
  rising = rises-grouped nat_list_cmp_total key_exact key (λ (row : Row). row.1) (merged f.cells) rows;
  few = omega (arith, all_counted key f.most f.cells rows cells, few);
}

row_keys : (f : CellTableForm) (whole part : Mask) (rows : List Row) → IsWithin part whole → AllByRecursion (FitsRow (sizes_in f.sizes whole) f) rows
    → AllByRecursion (λ (row : Row). EachFits FitsId (sizes_in f.sizes part) (part_of whole part row.0)) rows
row_keys f whole part [] within all = tt
row_keys f whole part (row ∷ rows) within all = (key_fits whole part f.sizes row.0 within all.0.key, row_keys f whole part rows within all.1)

-- the rows of a valid table, gathered by some of its dimensions, are a valid table
pub gathered_fits : (f : CellTableForm) (whole part : Mask) (rows : List Row) → IsWithin part whole → AllByRecursion (FitsRow (sizes_in f.sizes whole) f) rows
    → sum_by (λ (row : Row). count_in row.1) rows ≤ f.most → AllByRecursion (AreExtremes f.cells) f.extremes
    → FitsTable f part (record { mask = part; forms = measures_of f; rows = gathered (measures_of f) (part_of whole part) rows })
gathered_fits f whole part rows within all few extremes =
    grouped_fits f part (λ (row : Row). part_of whole part row.0) rows (row_keys f whole part rows within all) (row_cells (sizes_in f.sizes whole) f rows all) (row_order (sizes_in f.sizes whole) f rows all) few extremes
