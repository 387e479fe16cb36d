-- The cube of a task, and the tables that it works on.
use Rattle.std.proofs.Common.{◌≡◌, ◌<◌, ◌+◌, ◌∙◌, ℕ, zero, suc, Bool, true, List, [], ◌∷◌, length, get_or, Option, Some, None, map, refl, sym, ap, subst, arith}
use Rattle.std.specs.Prelude.{is_some, unwrap_or}
use Rattle.std.specs.List.{AllByRecursion, AllZip, range_with_len, zip}
use Rattle.std.proofs.lemmas.List.{length-map}
use Rattle.std.proofs.lemmas.List.Elements.{All-from_recursion}
use Rattle.std.proofs.lemmas.List.FromFn.{length-range_with_len}
use Rattle.byte_frame.specs.Spelling.{EachFits}
use Rattle.cube_desc.specs.Cube.{Cube}
use Rattle.cube_desc.specs.Forms.{form_of}
use Rattle.cube_desc.specs.Meaning.{desc_of}
use Rattle.cube_val.specs.declared.form.ColDesc.{ColDesc}
use Rattle.cube_val.specs.declared.form.TableForm.{TableForm}
use Rattle.cube_val.specs.declared.val.Val.{Val}
use Rattle.flat_join.specs.Flat.{AreTablesOf}
use Rattle.flat_join.specs.Fits.{FitsColumn as JoinsColumn, FitsRow as JoinsRow, IsTable}
use Rattle.step_codec.specs.Bodies.{FitsAllLoaded, FitsLoaded}
use Rattle.step_fields.specs.Fits.{FitsRow}
use Rattle.step_files.specs.Cubes.{columns_in, layout_in, layout_of, table_of, tables_of}
use Rattle.step_files.proofs.LayoutFacts.{layout_is}
use Rattle.step_files.proofs.ShortFacts.{each_length}
use Rattle.step_task.specs.Steps.{cube_in, no_cube}

-- ---- the cube

pub cube_is : (desc : List ℕ) (c : Cube) → desc_of desc ≡ Some c → cube_in desc ≡ c
unfolding cube_in
cube_is desc c e = ap (λ o. unwrap_or o no_cube) e

-- bytes that are a descriptor describe a cube
pub described : (desc : List ℕ) → is_some (desc_of desc) ≡ true → desc_of desc ≡ Some (cube_in desc)
described desc h = by (desc_of desc) refl h where
  by : (o : Option Cube) → desc_of desc ≡ o → is_some o ≡ true → desc_of desc ≡ Some (cube_in desc)
  by (Some c) e h = e ∙ ap Some (sym (cube_is desc c e))
  by None e h = absurd cc

-- and are read by its layout
pub layout_is_of : (desc : List ℕ) → is_some (desc_of desc) ≡ true → layout_in desc ≡ layout_of (cube_in desc)
layout_is_of desc h = layout_is desc (cube_in desc) (described desc h)

-- ---- lists of which each item fits

pub each_in_range : {C A : Type 0} (F : C → A → Type 0) (f : ℕ → C) (a n : ℕ) (xs : List A) (t : ℕ) (d : A) → EachFits F (map f (range_with_len a n)) xs → t < n → F (f (a + t)) (get_or xs t d)
each_in_range F f a zero xs t d h lt = absurd (omega arith)
each_in_range F f a (suc n) [] t d h lt = absurd h
each_in_range F f a (suc n) (x ∷ xs) zero d h lt = let same : a ≡ a + 0 = omega arith in subst (λ k. F (f k) x) same h.0
each_in_range F f a (suc n) (x ∷ xs) (suc t) d h lt =
    let same : a + 1 + t ≡ a + suc t = omega arith in
    subst (λ k. F (f k) (get_or xs t d)) same (each_in_range F f (a + 1) n xs t d h.1 (omega arith))

-- ---- tables

values_join : (cols : List ColDesc) (nos : List Bool) (row : List Val) → FitsRow (columns_in cols nos) row → AllZip JoinsColumn (zip cols nos) row
values_join [] nos [] h = tt
values_join [] nos (v ∷ row) h = absurd h
values_join (c ∷ cols) [] [] h = tt
values_join (c ∷ cols) [] (v ∷ row) h = absurd h
values_join (c ∷ cols) (n ∷ nos) [] h = absurd h
values_join (c ∷ cols) (n ∷ nos) (v ∷ row) h = ((h.0.of_type, h.0.no_null), values_join cols nos row h.1)

rows_join : (form : TableForm) (rows : List (List Val)) → AllByRecursion (FitsRow (columns_in form.cols form.no_null)) rows → AllByRecursion (JoinsRow form) rows
rows_join form [] h = tt
rows_join form (row ∷ rows) h = (values_join form.cols form.no_null row h.0, rows_join form rows h.1)

is_table : (c : Cube) (t : ℕ) (rows : List (List Val)) → FitsLoaded (table_of c t) rows → IsTable (form_of c t) rows
is_table c t rows h = record { fit = All-from_recursion (JoinsRow (form_of c t)) rows (rows_join (form_of c t) rows h.0.1); distinct = h.1 }

abbrev pub no_rows : List (List Val)
no_rows = []

-- each table of a task is one of the cube's
pub loaded_at : (c : Cube) (tables : List (List (List Val))) (t : ℕ) (d : List (List Val)) → FitsAllLoaded (layout_of c) tables → t < length c.tables → FitsLoaded (table_of c t) (get_or tables t d)
unfolding layout_of tables_of
loaded_at c tables t d h lt =
    let same : 0 + t ≡ t = omega arith in
    subst (λ k. FitsLoaded (table_of c k) (get_or tables t d)) same (each_in_range FitsLoaded (table_of c) 0 (length c.tables) tables t d h lt)

pub loaded_length : (c : Cube) (tables : List (List (List Val))) → FitsAllLoaded (layout_of c) tables → length tables ≡ length c.tables
unfolding layout_of tables_of
loaded_length c tables h =
    each_length FitsLoaded (map (table_of c) (range_with_len 0 (length c.tables))) tables h ∙ length-map (range_with_len 0 (length c.tables)) (table_of c) ∙ length-range_with_len 0 (length c.tables)

pub are_tables : (c : Cube) (tables : List (List (List Val))) → FitsAllLoaded (layout_of c) tables → AreTablesOf c tables
are_tables c tables h = record {
  count = loaded_length c tables h;
  each = λ t lt. is_table c t (get_or tables t []) (loaded_at c tables t [] h (omega (arith, lt, loaded_length c tables h)));
}
