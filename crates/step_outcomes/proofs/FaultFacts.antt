-- The faults that attempts meet: where they stand among those that a hand tells, and turns that end no step.
use Rattle.std.proofs.Common.{◌≡◌, ◌≢◌, ℕ, Bool, true, false, cond, ◌&&◌, ◌==◌, Option, Some, None, List, [], ◌∷◌, All, map, refl, sym, ap, ◌∙◌, inl, inr}
use Rattle.std.specs.Prelude.{Contains, find, option_map}
use Rattle.std.specs.List.{AllByRecursion}
use Rattle.std.proofs.lemmas.Bool.{and_parts, eqb-true}
use Rattle.std.proofs.lemmas.List.Elements.{All-weaker, Contains-append_left, Contains-append_right, Contains-push}
use Rattle.fixed_state.specs.Ends.{outcome_of}
use Rattle.outside.specs.Hands.{Fail, fault_for, is_fail_of}
use Rattle.outside.specs.declared.hand.HandFault.{HandFault}
use Rattle.run_history.specs.Commands.{Turn, event_of}
use Rattle.run_history.specs.Commands.Turn.{Takes, Claims, StepEnds, QueryTakes, QueryEnds}
use Rattle.run_history.specs.declared.event.Event.{Event}
use Rattle.run_history.specs.declared.event.Event.TheVariants as event
use Rattle.run_history.specs.declared.event.Outcome.{Outcome}
use Rattle.run_history.specs.declared.event.Outcome.TheVariants as outcome
use Rattle.step_outcomes.specs.Ends.{EndsNoStep, IsUndamaged, is_damage, is_fault}
use Rattle.step_outcomes.specs.Faults.{EndsBy, IsEndBy, IsFailOf, StandsAmong}

-- an end by the first fault of its attempt has it among them
abbrev IsAmong : ℕ → ℕ → HandFault → List Fail → Type 0
IsAmong job attempt f fails = (fail : Fail) × Contains fails fail × (fail.job ≡ job) × (fail.attempt ≡ attempt) × (fail.fault ≡ f)

first_or_later : (job attempt : ℕ) (f : HandFault) (fail : Fail) (fails : List Fail) (b : Bool) → ((fail.job == job) && (fail.attempt == attempt)) ≡ b
    → (fault_for job attempt fails ≡ Some f → IsAmong job attempt f fails) → option_map (λ (x : Fail). x.fault) (cond b (Some fail) (find (is_fail_of job attempt) fails)) ≡ Some f
    → IsAmong job attempt f (fail ∷ fails)
first_or_later job attempt f fail fails true t rest h =
    let parts = and_parts (fail.job == job) (fail.attempt == attempt) t in
    let same : fail.fault ≡ f = cc in
    (fail, Contains-append_left (fail ∷ []) fails fail (Contains-push [] fail), eqb-true fail.job job parts.0, eqb-true fail.attempt attempt parts.1, same)
first_or_later job attempt f fail fails false t rest h =
    let found = rest h in
    (found.0, Contains-append_right (fail ∷ []) fails found.0 found.1, found.2, found.3, found.4)

first_found : (job attempt : ℕ) (f : HandFault) (fails : List Fail) → fault_for job attempt fails ≡ Some f → IsAmong job attempt f fails
first_found job attempt f [] e = cc
first_found job attempt f (fail ∷ fails) e = first_or_later job attempt f fail fails ((fail.job == job) && (fail.attempt == attempt)) refl (first_found job attempt f fails) e

stands_by : (fails : List Fail) (job attempt : ℕ) (o : Outcome) (met : Option HandFault) → fault_for job attempt fails ≡ met → EndsBy met o → is_fault o ≡ true
    → (fail : Fail) × Contains fails fail × IsFailOf job attempt o fail
stands_by fails job attempt o None e h fault = absurd (let clash : true ≡ false = sym fault ∙ h in cc)
stands_by fails job attempt o (Some f) e (inl h) fault =
    let found = first_found job attempt f fails e in
    (found.0, found.1, record { job_is = found.2; attempt_is = found.3; fault_is = ap outcome_of found.4 ∙ sym h })
stands_by fails job attempt o (Some f) e (inr h) fault = absurd (let clash : true ≡ false = sym fault ∙ ap is_fault h in cc)

pub stands-among : (fails : List Fail) (event : Event) → IsEndBy fails event → StandsAmong fails event
stands-among fails (event.StepEnd job attempt o) h = λ fault. stands_by fails job attempt o (fault_for job attempt fails) refl h fault
stands-among fails (event.Command line) h = tt
stands-among fails (event.Claim job attempt) h = tt
stands-among fails (event.QueryTake line) h = tt
stands-among fails (event.QueryEnd line out) h = tt

pub all-stand : (told : List Fail) (history : List Event) → All (IsEndBy told) history → All (StandsAmong told) history
all-stand told history h = All-weaker (IsEndBy told) (StandsAmong told) (stands-among told) history h

-- ---- turns that end no step

module _ {Query : Type 0} where
  pub silent_ends : (fails : List Fail) (later : List (Turn Query)) → AllByRecursion EndsNoStep later → AllByRecursion (IsEndBy fails) (map event_of later)
  silent_ends fails [] h = tt
  silent_ends fails (Claims job attempt ∷ later) h = (tt, silent_ends fails later h.1)
  silent_ends fails (Takes line command ∷ later) h = (tt, silent_ends fails later h.1)
  silent_ends fails (QueryTakes line ∷ later) h = (tt, silent_ends fails later h.1)
  silent_ends fails (QueryEnds line out ∷ later) h = (tt, silent_ends fails later h.1)
  silent_ends fails (StepEnds job attempt o ∷ later) h = absurd h.0

  pub silent_sound : (later : List (Turn Query)) → AllByRecursion EndsNoStep later → AllByRecursion IsUndamaged (map event_of later)
  silent_sound [] h = tt
  silent_sound (Claims job attempt ∷ later) h = (refl, silent_sound later h.1)
  silent_sound (Takes line command ∷ later) h = (refl, silent_sound later h.1)
  silent_sound (QueryTakes line ∷ later) h = (refl, silent_sound later h.1)
  silent_sound (QueryEnds line out ∷ later) h = (refl, silent_sound later h.1)
  silent_sound (StepEnds job attempt o ∷ later) h = absurd h.0

pub no_damage : (o : Outcome) → o ≢ outcome.Damaged → is_damage o ≡ false
no_damage outcome.Damaged h = absurd (h refl)
no_damage outcome.Done h = refl
no_damage outcome.NotStarted h = refl
no_damage (outcome.Ended status) h = refl
no_damage outcome.Killed h = refl
no_damage outcome.NoFile h = refl
no_damage outcome.Memory h = refl
