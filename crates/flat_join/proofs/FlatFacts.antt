-- Facts about the flat rows of a cube.
use Rattle.std.proofs.Common.{zero, ◌≡◌, ◌<◌, ◌+◌, ℕ, suc, List, [], ◌∷◌, ◌++◌, length, get_or, take, drop, map, Option, Some, refl, sym, ap, subst, ◌∙◌, arith}
use Rattle.std.specs.Prelude.{All, slice_get}
use Rattle.std.specs.List.{drop-map}
use Rattle.std.proofs.lemmas.List.{map-append, take-map}
use Rattle.std.proofs.lemmas.Option.{get_or_from_slice_get, slice_get-get_or, slice_get_within}
use Rattle.range_list.specs.Ranges.{Interval}
use Rattle.cube_val.specs.declared.form.ColDesc.{ColDesc}
use Rattle.cube_val.specs.declared.form.JoinStep.{JoinStep}
use Rattle.cube_val.specs.declared.form.WideCol.{WideCol}
use Rattle.cube_val.specs.declared.val.Val.{Val}
use Rattle.cube_desc.proofs.FormFacts.{form_no_null}
use Rattle.cube_desc.specs.Cube.{Cube}
use Rattle.cube_desc.specs.Forms.{cols_of, form_of, primary_of}
use Rattle.cube_desc.specs.Sound.{IsSound}
use Rattle.cube_desc.specs.declared.desc.TableDesc.{TableDesc}
use Rattle.flat_join.proofs.FitFacts.{fitting_length}
use Rattle.flat_join.specs.Fits.{IsTable}
use Rattle.flat_join.specs.Joins.{fact_of, joined_by, lookups_of, matches_of, wide_row, wide_value}
use Rattle.table_reader.specs.Keys.{HasDistinctKeys}
use Rattle.flat_join.proofs.ServeFacts.{found_in-is}
use Rattle.flat_join.specs.Flat.{AreTablesOf, flat_of, without_derived}
use Rattle.flat_join.specs.Partners.{AreServed, Entries, found_in}

-- ---- columns

-- the values of the columns without the derived ones are the values without the derived ones
part_of_row : (c : Cube) (columns : List WideCol) (fact : List Val) (found : List (Option (List Val)))
    → without_derived c (wide_row columns fact found) ≡ wide_row (without_derived c columns) fact found
part_of_row c columns fact found =
    let v = wide_value fact found in
    let n = length c.rowkey in
    let k = length c.rowkey + length c.derived in
    let front = take-map v n columns in
    let back = drop-map v k columns in
    (λ i. front i ++ back i) ∙ sym (map-append v (take n columns) (drop k columns))

map_twice : {X Y Z : Type 0} (g : Y → Z) (h : X → Y) (k : X → Z) → ((x : X) → g (h x) ≡ k x) → (xs : List X) → map g (map h xs) ≡ map k xs
map_twice g h k e [] = refl
map_twice g h k e (x ∷ xs) = let head = e x in let rest = map_twice g h k e xs in λ i. head i ∷ rest i

flat_by : (c : Cube) (matches : List Val → List (Option (List Val))) (range : Interval) (facts : List (List Val))
    → map (without_derived c) (joined_by matches c.plan c.plan.wide range facts) ≡ joined_by matches c.plan (without_derived c c.plan.wide) range facts
flat_by c matches range facts =
    map_twice (without_derived c) (λ fact. wide_row c.plan.wide fact (matches fact)) (λ fact. wide_row (without_derived c c.plan.wide) fact (matches fact))
    (λ fact. part_of_row c c.plan.wide fact (matches fact)) _

-- what is made of snapshots is the definition
pub flat_is : (c : Cube) (tables : List (List (List Val))) (range : Interval) (snaps : List Entries) (columns : List WideCol) (facts flat : List (List Val))
    → AreServed c.plan.joins (lookups_of tables) snaps → columns ≡ without_derived c c.plan.wide → facts ≡ fact_of tables
    → flat ≡ joined_by (found_in c.plan.joins snaps) c.plan columns range facts → flat ≡ flat_of c tables range
flat_is c tables range snaps columns facts flat served cols first e =
    let same = λ (fact : List Val). found_in-is c.plan.joins (lookups_of tables) snaps fact served in
    e ∙ (λ i. joined_by (λ fact. same fact i) c.plan (cols i) range (first i)) ∙ sym (flat_by c (matches_of c.plan.joins (lookups_of tables)) range (fact_of tables))

-- ---- tables

pub first_table : (tables : List (List (List Val))) (t : List (List Val)) → 0 < length tables → t ≡ get_or tables 0 t → t ≡ fact_of tables
first_table [] t h e = absurd (omega arith)
first_table (x ∷ tables) t h e = e

pub lookup_count : (c : Cube) (tables : List (List (List Val))) → IsSound c → AreTablesOf c tables → length (lookups_of tables) ≡ length c.plan.joins
lookup_count c [] s t = let a = t.count in let b = s.tables in absurd (omega arith)
lookup_count c (x ∷ tables) s t = let a = t.count in let b = s.tables in omega arith

pub later_table : (tables : List (List (List Val))) (i : ℕ) (d : List (List Val)) → get_or (lookups_of tables) i d ≡ get_or tables (suc i) d
later_table [] i d = refl
later_table (x ∷ tables) i d = refl

-- what a snapshot of a lookup asks of its rows and its key
pub record IsLookup (rows : List (List Val)) (primary : List ℕ) (width : ℕ) : Type 0 where
  pub some : 0 < length primary
  pub within : All (λ place. place < width) primary
  pub rows_are : All (λ row. length row ≡ width) rows
  pub distinct : HasDistinctKeys primary rows

pub lookup_is : (c : Cube) (tables : List (List (List Val))) (i : ℕ) (j : JoinStep) (desc : TableDesc) → IsSound c → AreTablesOf c tables → suc i < length tables
    → slice_get c.plan.joins i ≡ Some j → slice_get c.tables (suc i) ≡ Some desc → IsLookup (get_or tables (suc i) []) j.primary (length desc.cols)
lookup_is c tables i j desc s t small at there =
    let join = s.joined i j at in
    let table = t.each (suc i) small in
    let key : (form_of c (suc i)).key ≡ j.primary = ap primary_of at in
    let cols : (form_of c (suc i)).cols ≡ desc.cols = ap cols_of there in
    record {
      some = join.some;
      within = subst (λ (cs : List ColDesc). All (λ place. place < length cs) j.primary) cols join.primary;
      rows_are = λ k d h. fitting_length (form_of c (suc i)) (get_or (get_or tables (suc i) []) k d) (form_no_null c (suc i)) (table.fit k d h) ∙ ap length cols;
      distinct = subst (λ (places : List ℕ). HasDistinctKeys places (get_or tables (suc i) [])) key table.distinct;
    }

-- the same, as the code goes
pub lookup_ready : (c : Cube) (joins : List JoinStep) (tables : List (List (List Val))) (i n : ℕ) (j : JoinStep) (desc : TableDesc) (rows : List (List Val)) (primary : List ℕ) (width : ℕ)
    → n ≡ suc i → IsSound c → AreTablesOf c tables → joins ≡ c.plan.joins → i < length joins → j ≡ get_or joins i j → slice_get c.tables n ≡ Some desc → slice_get tables n ≡ Some rows
    → primary ≡ j.primary → width ≡ length desc.cols → IsLookup rows primary width
lookup_ready c joins tables i n j desc rows primary width e s t same h ej ed er ep ew =
    let within = slice_get_within tables n rows er in
    let small : suc i < length tables = omega arith in
    let at : slice_get c.plan.joins i ≡ Some j = ap (λ (js : List JoinStep). slice_get js i) (sym same) ∙ slice_get-get_or joins i j h ∙ ap Some (sym ej) in
    let there : slice_get c.tables (suc i) ≡ Some desc = subst (λ (m : ℕ). slice_get c.tables m ≡ Some desc) e ed in
    let rows_at : get_or tables (suc i) [] ≡ rows = get_or_from_slice_get tables (suc i) rows [] (subst (λ (m : ℕ). slice_get tables m ≡ Some rows) e er) in
    let is = lookup_is c tables i j desc s t small at there in
    subst (λ (x : List (List Val)). IsLookup x primary width) rows_at
    (subst (λ (ps : List ℕ). IsLookup (get_or tables (suc i) []) ps width) (sym ep) (subst (λ (w : ℕ). IsLookup (get_or tables (suc i) []) j.primary w) (sym ew) is))

-- two tables of their forms are those of a cube of two tables
pub two_tables : (c : Cube) (a b : List (List Val)) → length c.tables ≡ 2 → IsTable (form_of c 0) a → IsTable (form_of c 1) b → AreTablesOf c (a ∷ b ∷ [])
two_tables c a b e ta tb = record { count = sym e; each = each }
  where
    each : (t : ℕ) → t < 2 → IsTable (form_of c t) (get_or (a ∷ b ∷ []) t [])
    each zero h = ta
    each (suc zero) h = tb
    each (suc (suc t)) h = absurd (omega arith)
