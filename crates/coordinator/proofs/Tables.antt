-- The rows of a load that was found by its line.
use Rattle.std.proofs.Common.{◌≡◌, ℕ, Bool, true, false, cond, ◌==◌, Option, Some, None, List, [], ◌∷◌, map, All, unwrap_or, refl, ap, ◌∙◌, subst}
use Rattle.std.specs.Prelude.{codes, find, is_some, option_map}
use Rattle.std.specs.Arc.{arc_value}
use Rattle.std.specs.List.{AllByRecursion}
use Rattle.std.specs.Str.{bytes_eq}
use Rattle.std.proofs.lemmas.List.Elements.{recursion_from_All}
use Rattle.run_history.specs.Commands.Command.{Load}
use Rattle.run_history.specs.Cubes.{Rows}
use Rattle.run_inputs.specs.Inputs.{HasFittingRows}
use Rattle.run_inputs.specs.declared.inputs.LoadedTable.{LoadedTable}
use Rattle.run_transcript.specs.Served.{command_of}
use Rattle.script_text.specs.declared.verb.Verb.{Verb}
use Rattle.script_text.specs.declared.verb.Verb.TheVariants as verb
use Rattle.coordinator.specs.Coordinator.{load_of}
use Rattle.coordinator.specs.Served.{rows_at, served}
use Rattle.job_board.specs.Ledger.{FitsTable}
use Rattle.coordinator.specs.declared.loads.SharedLoad.{SharedLoad}

find_cut : (b : Bool) (load : SharedLoad) (tables : Option LoadedTable) (loads : Option SharedLoad) → tables ≡ option_map load_of loads
    → cond b (Some (load_of load)) tables ≡ option_map load_of (cond b (Some load) loads)
find_cut true load tables loads e = refl
find_cut false load tables loads e = e

found_load : (number : ℕ) (loads : List SharedLoad) → find (λ table. table.line == number) (map load_of loads) ≡ option_map load_of (find (λ load. load.line == number) loads)
found_load number [] = refl
found_load number (load ∷ loads) =
    find_cut (load.line == number) load (find (λ table. table.line == number) (map load_of loads)) (find (λ load. load.line == number) loads) (found_load number loads)

-- the rows at a line are those of its load
pub rows_found : (number : ℕ) (loads : List SharedLoad) (load : SharedLoad) → find (λ load. load.line == number) loads ≡ Some load → rows_at (map load_of loads) number ≡ arc_value load.rows
rows_found number loads load e =
    ap (λ (o : Option LoadedTable). unwrap_or (option_map (λ (table : LoadedTable). table.rows) o) []) (found_load number loads ∙ ap (option_map load_of) e)

fits_cut : (b : Bool) (first load : SharedLoad) (rest : Option SharedLoad) → FitsTable (arc_value first.rows)
    → (rest ≡ Some load → FitsTable (arc_value load.rows)) → cond b (Some first) rest ≡ Some load → FitsTable (arc_value load.rows)
fits_cut true first load rest h k e = let same : first ≡ load = cc in subst (λ (l : SharedLoad). FitsTable (arc_value l.rows)) same h
fits_cut false first load rest h k e = k e

fits_in : (number : ℕ) (loads : List SharedLoad) (load : SharedLoad) → AllByRecursion HasFittingRows (map load_of loads) → find (λ load. load.line == number) loads ≡ Some load
    → FitsTable (arc_value load.rows)
fits_in number [] load h e = cc
fits_in number (first ∷ loads) load h e = fits_cut (first.line == number) first load (find (λ l. l.line == number) loads) h.0 (fits_in number loads load h.1) e

pub fits_found : (number : ℕ) (loads : List SharedLoad) (load : SharedLoad) → All HasFittingRows (map load_of loads) → find (λ load. load.line == number) loads ≡ Some load
    → FitsTable (arc_value load.rows)
fits_found number loads load h e = fits_in number loads load (recursion_from_All HasFittingRows (map load_of loads) h) e

-- a load that is there is found
pub never_none : (number : ℕ) (loads : List SharedLoad) → is_some (find (λ table. table.line == number) (map load_of loads)) ≡ true → find (λ load. load.line == number) loads ≡ None → ⊥
never_none number loads h e =
    let none : is_some (find (λ table. table.line == number) (map load_of loads)) ≡ false = ap is_some (found_load number loads ∙ ap (option_map load_of) e) in
    cc

-- the command of a load of F
pub load_command : (name path : List ℕ) (rows : Rows) → bytes_eq name (codes "F") ≡ true → command_of served rows (verb.Load name path) ≡ Load 0 rows
load_command name path rows h = rw h refl

pub load_is : (number : ℕ) (loads : List SharedLoad) (load : SharedLoad) (said : Verb) (name path : List ℕ) → said ≡ verb.Load name path → bytes_eq name (codes "F") ≡ true
    → find (λ load. load.line == number) loads ≡ Some load → command_of served (rows_at (map load_of loads) number) said ≡ Load 0 (arc_value load.rows)
load_is number loads load said name path e h found =
    ap (command_of served (rows_at (map load_of loads) number)) e
    ∙ (load_command name path (rows_at (map load_of loads) number) h ∙ ap (λ (rows : Rows). Load 0 rows) (rows_found number loads load found))
