-- Lines of a script, by their places and by their numbers.
use Rattle.std.proofs.Common.{◌≡◌, ℕ, zero, suc, ◌+◌, ◌<◌, Bool, true, false, cond, ◌==◌, Some, List, [], ◌∷◌, ◌++◌, take, drop, slice_get, refl, ap, ◌∙◌, subst, arith, eq-eqb}
use Rattle.std.specs.Prelude.{find, option_map}
use Rattle.std.proofs.lemmas.Bool.{eqb-true}
use Rattle.std.proofs.lemmas.List.{drop_more, map-append, take_more}
use Rattle.std.proofs.lemmas.Option.{get_or_from_slice_get, slice_get_within}
use Rattle.run_transcript.specs.Runs.{lines_in}
use Rattle.run_transcript.specs.Served.{command_at, command_by, command_of, verb_at}
use Rattle.run_inputs.specs.declared.inputs.LoadedTable.{LoadedTable}
use Rattle.script_text.specs.declared.verb.Line.{Line}
use Rattle.coordinator.specs.Coordinator.{RisesFrom, inputs_in}
use Rattle.coordinator.specs.Served.{rows_at, served}

-- lines are above the last number
above : (last : ℕ) (script : List Line) (place : ℕ) (line : Line) → RisesFrom last script → slice_get script place ≡ Some line → last < line.number
above last [] place line r e = cc
above last (first ∷ script) zero line r e = let same : first ≡ line = cc in subst (λ (l : Line). last < l.number) same r.0
above last (first ∷ script) (suc place) line r e = let k = above first.number script place line r.1 e in omega (arith, k, r.0)

other_number : (a b : ℕ) → a < b → (a == b) ≡ false
other_number a b h = split (a == b) refl where
  split : (t : Bool) → (a == b) ≡ t → t ≡ false
  split false e = refl
  split true e = let same : a ≡ b = eqb-true a b e in absurd (omega (arith, h, same))

-- a line is found by its number
pub line_found : (last : ℕ) (script : List Line) (place : ℕ) (line : Line) → RisesFrom last script → slice_get script place ≡ Some line
    → find (λ other. other.number == line.number) script ≡ Some line
line_found last [] place line r e = cc
line_found last (first ∷ script) zero line r e =
    let same : first ≡ line = cc in
    let test : (first.number == line.number) ≡ true = eq-eqb first.number line.number (ap (λ (l : Line). l.number) same) in
    ap (λ (t : Bool). cond t (Some first) (find (λ other. other.number == line.number) script)) test ∙ ap Some same
line_found last (first ∷ script) (suc place) line r e =
    ap (λ (t : Bool). cond t (Some first) (find (λ other. other.number == line.number) script))
    (other_number first.number line.number (above first.number script place line r.1 e))
    ∙ line_found first.number script place line r.1 e

module _ (script : List Line) (tables : List LoadedTable) (place : ℕ) (line : Line) (r : RisesFrom 0 script) (e : slice_get script place ≡ Some line) where
  pub verb_found : verb_at script line.number ≡ Some line.verb
  verb_found = ap (option_map (λ (l : Line). l.verb)) (line_found 0 script place line r e)

  pub command_found : command_at served (inputs_in script tables) line.number ≡ command_of served (rows_at tables line.number) line.verb
  command_found = ap (command_by served (rows_at tables line.number)) verb_found

-- the line at a place, and those before and from it on
module _ (script : List Line) (place : ℕ) (line : Line) (e : slice_get script place ≡ Some line) where
  pub taken_more : lines_in (take (place + 1) script) ≡ lines_in (take place script) ++ line.number ∷ []
  taken_more =
      let within = slice_get_within script place line e in
      ap lines_in (take_more script place line within ∙ ap (λ (l : Line). take place script ++ l ∷ []) (get_or_from_slice_get script place line line e))
      ∙ map-append (λ (l : Line). l.number) (take place script) (line ∷ [])

  pub rest_more : drop place script ≡ line ∷ drop (place + 1) script
  rest_more =
      let within = slice_get_within script place line e in
      drop_more script place line within ∙ ap (λ (l : Line). l ∷ drop (place + 1) script) (get_or_from_slice_get script place line line e)
