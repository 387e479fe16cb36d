-- The text of the end line, and what a run leaves of the inputs that it was given.
use Rattle.std.proofs.Common.{◌≡◌, ◌≢◌, ℕ, ◌++◌, Option, Result, Ok, Err, OnOk, OnErr, List, [], refl, sym, ap, ◌∙◌, subst, arith}
use Rattle.job_board.specs.BoardModel.{BoardModel}
use Rattle.outside.proofs.Rises.{Risen-none}
use Rattle.run_history.specs.declared.event.Event.{Event}
use Rattle.run_inputs.specs.declared.inputs.FixedInputs.{FixedInputs}
use Rattle.run_inputs.specs.declared.inputs.LoadedTable.{LoadedTable}
use Rattle.run_transcript.specs.Runs.{lines_in}
use Rattle.run_transcript.specs.Served.{Inputs}
use Rattle.script_text.specs.Blocks.{end_text}
use Rattle.script_text.specs.declared.block.Tally.{Tally}
use Rattle.script_text.specs.declared.verb.Line.{Line}
use Rattle.coordinator.specs.Coordinator.{AreGiven, HasWritten, HasWrittenPart, IsCounted, IsFront, IsSound, RisesFrom, inputs_in}
use Rattle.coordinator.specs.Runs.{IsRunOver, status_of}
use Rattle.coordinator.specs.Served.{inputs_of}
use Rattle.coordinator.specs.declared.fault.RunFault.{RunFault}
use Rattle.coordinator.specs.declared.fault.RunFault.TheVariants as fault
use Rattle.coordinator.proofs.Start.{empty_board, sound-start, written-start}
use Rattle.coordinator.proofs.Whole.{run-over}
use Rattle.coordinator.proofs.Written.{part_nothing}

pub end-line : (text out first : List ℕ) (tally tally' : Tally) (n n' : ℕ) → text ≡ out → out ≡ first ++ end_text tally n → first ≡ [] → tally ≡ tally' → n ≡ n' → text ≡ end_text tally' n'
end-line text out first tally tally' n n' a b f t k =
    a ∙ (b ∙ (ap (λ (l : List ℕ). l ++ end_text tally n) f ∙ (ap (λ (x : Tally). end_text x n) t ∙ ap (λ (x : ℕ). end_text tally' x) k)))

-- ---- over another way to write what was given

module _ (script script' : List Line) (tables tables' : List LoadedTable) (s : script' ≡ script) (t : tables' ≡ tables) where
  same-inputs : inputs_in script' tables' ≡ inputs_in script tables
  same-inputs = ap (λ (lines : List Line). inputs_in lines tables') s ∙ ap (λ (loads : List LoadedTable). inputs_in script loads) t

  pub given-again : AreGiven script tables → AreGiven script' tables'
  given-again h = subst (λ (lines : List Line). AreGiven lines tables') (sym s) (subst (λ (loads : List LoadedTable). AreGiven script loads) (sym t) h)

  pub front-again : (board : BoardModel) → IsFront (inputs_in script' tables') board → IsFront (inputs_in script tables) board
  front-again board f = subst (λ (inputs : Inputs). IsFront inputs board) same-inputs f

  pub front-forth : (board : BoardModel) → IsFront (inputs_in script tables) board → IsFront (inputs_in script' tables') board
  front-forth board f = subst (λ (inputs : Inputs). IsFront inputs board) (sym same-inputs) f

  pub sound-again : (board : BoardModel) (taken : ℕ) → IsSound (inputs_in script' tables') board taken → IsSound (inputs_in script tables) board taken
  sound-again board taken f = subst (λ (inputs : Inputs). IsSound inputs board taken) same-inputs f

  pub sound-forth : (board : BoardModel) (taken : ℕ) → IsSound (inputs_in script tables) board taken → IsSound (inputs_in script' tables') board taken
  sound-forth board taken f = subst (λ (inputs : Inputs). IsSound inputs board taken) (sym same-inputs) f

module _ (honest : Type 0) (script script' : List Line) (s : script' ≡ script) (old new : BoardModel) (before mid later : Option (List ℕ)) where
  pub written-again : HasWritten honest script old before mid → (HasWritten honest script' old before mid → HasWritten honest script' new before later)
      → HasWritten honest script new before later
  written-again h f =
      subst (λ (lines : List Line). HasWritten honest lines new before later) s (f (subst (λ (lines : List Line). HasWritten honest lines old before mid) (sym s) h))

  pub part-again : HasWritten honest script old before mid → (HasWritten honest script' old before mid → HasWrittenPart honest script' new before later)
      → HasWrittenPart honest script new before later
  part-again h f =
      subst (λ (lines : List Line). HasWrittenPart honest lines new before later) s (f (subst (λ (lines : List Line). HasWritten honest lines old before mid) (sym s) h))

-- ---- before the first turn

pub start-sound : (script : List Line) (tables : List LoadedTable) (board : BoardModel) (taken : ℕ) → board ≡ empty_board 1 → taken ≡ 0 → RisesFrom 0 script → IsSound (inputs_in script tables) board taken
start-sound script tables board taken b t rise =
    subst (λ (x : BoardModel). IsSound (inputs_in script tables) x taken) (sym b)
    (subst (λ (n : ℕ). IsSound (inputs_in script tables) (empty_board 1) n) (sym t) (sound-start (inputs_in script tables) refl (omega arith) rise))

pub start-written : (honest : Type 0) (script : List Line) (board : BoardModel) (before : Option (List ℕ)) → board ≡ empty_board 1 → HasWritten honest script board before before
start-written honest script board before b = subst (λ (x : BoardModel). HasWritten honest script x before before) (sym b) (written-start honest script 1 before)

pub start-counted : {H : Type 0} (runs faults : H → ℕ) (hands : List H) (board : BoardModel) → board ≡ empty_board 1 → IsCounted runs faults hands hands board
start-counted runs faults hands board b =
    subst (λ (x : BoardModel). IsCounted runs faults hands hands x) (sym b) (record { ran = Risen-none runs hands; failed = Risen-none faults hands })

-- ---- what a run leaves

pub ok_status : (r : Result (Unit {0}) RunFault) (P : Type 0) → OnOk r P → status_of r ≡ 0 → P
ok_status (Ok done) P h e = h
ok_status (Err fault.Memory) P h e = absurd (omega (arith, e))
ok_status (Err fault.Write) P h e = absurd (omega (arith, e))

pub err_status : (r : Result (Unit {0}) RunFault) (P : Type 0) → OnErr r P → status_of r ≢ 0 → P
err_status (Ok done) P h e = absurd (e refl)
err_status (Err f) P h e = h

pub inputs-are : (inputs : FixedInputs) (script : List Line) (tables : List LoadedTable) → script ≡ inputs.script → tables ≡ inputs.tables → inputs_in script tables ≡ inputs_of 1 inputs
inputs-are inputs script tables s t = ap (λ (lines : List Line). inputs_in lines tables) s ∙ ap (λ (loads : List LoadedTable). inputs_in inputs.script loads) t

-- no turn was taken
pub no-run : (honest : Type 0) (inputs : Inputs) (history : List Event) (before : Option (List ℕ)) → inputs.ready ≡ [] → history ≡ [] → IsRunOver honest inputs history 1 before before
no-run honest inputs history before none e =
    run-over honest inputs (empty_board inputs.workers) 0 1 history before before (record { workers = refl; ready = none; named = refl; later = lines_in inputs.script; in_order = refl; no_stops = refl }) e tt tt
    (λ z. absurd (omega (arith, z))) (λ z. absurd (omega (arith, z))) (λ z. absurd (omega (arith, z))) (λ z trusted. part_nothing before before _ refl)
