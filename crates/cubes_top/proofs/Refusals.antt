-- The status of a run that is refused, and of one over told files.
use Rattle.std.proofs.Common.{◌≡◌, ◌≢◌, ◌⊎◌, ℕ, List, [], Option, Result, Ok, Err, refl, sym, ap, ◌∙◌, subst, inl, inr, arith}
use Rattle.outside.specs.Rises.{Risen}
use Rattle.outside.proofs.Rises.{Risen-none}
use Rattle.run_history.specs.declared.event.Event.{Event}
use Rattle.outside.specs.Contents.{Paths}
use Rattle.run_inputs.specs.Inputs.{IsInputFault}
use Rattle.run_inputs.specs.Reading.{AnswersAs}
use Rattle.run_inputs.specs.declared.fault.InputFault.{InputFault}
use Rattle.run_inputs.specs.declared.fault.InputFault.TheVariants.{BadScript, BadTable, ReadFault, TooLarge}
use Rattle.run_inputs.specs.declared.fault.InputRefusal.{InputRefusal}
use Rattle.run_inputs.specs.declared.fault.InputRefusal.TheVariants.{Fault, Memory}
use Rattle.run_inputs.specs.declared.inputs.FixedInputs.{FixedInputs}
use Rattle.run_inputs.specs.Lines.{Refuses, status_of}
use Rattle.cubes_top.specs.Outcomes.{EndsAs, IsRefusalAt}

-- ---- which status a refusal has

abbrev pub IsRefusedStatus : ℕ → Type 0
IsRefusedStatus status = (status ≡ 1) ⊎ (status ≡ 3) ⊎ (status ≡ 6) ⊎ (status ≡ 8) ⊎ (status ≡ 10)

fault_status : (fault : InputFault) (status : ℕ) → (status ≡ status_of fault) ⊎ (status ≡ 1) → IsRefusedStatus status
fault_status (ReadFault at) status (inl e) = inr (inl e)
fault_status (TooLarge at) status (inl e) = inr (inr (inr (inr e)))
fault_status (BadScript line) status (inl e) = inr (inr (inl e))
fault_status (BadTable at fault) status (inl e) = inr (inr (inr (inl e)))
fault_status (ReadFault at) status (inr e) = inl e
fault_status (TooLarge at) status (inr e) = inl e
fault_status (BadScript line) status (inr e) = inl e
fault_status (BadTable at fault) status (inr e) = inl e

pub refused-status : (faults_old faults_new : ℕ) (old new : Option (List ℕ)) (refusal : InputRefusal) (status : ℕ) → Refuses faults_old faults_new old new refusal status → IsRefusedStatus status
refused-status faults_old faults_new old new Memory status r = inl r.0
refused-status faults_old faults_new old new (Fault fault) status r = fault_status fault status r.which

other_status : (status : ℕ) → IsRefusedStatus status → (n : ℕ) → 1 ≢ n → 3 ≢ n → 6 ≢ n → 8 ≢ n → 10 ≢ n → status ≢ n
other_status status (inl e) n a b c d f k = a (sym e ∙ k)
other_status status (inr (inl e)) n a b c d f k = b (sym e ∙ k)
other_status status (inr (inr (inl e))) n a b c d f k = c (sym e ∙ k)
other_status status (inr (inr (inr (inl e)))) n a b c d f k = d (sym e ∙ k)
other_status status (inr (inr (inr (inr e)))) n a b c d f k = f (sym e ∙ k)

-- a refusal is not done, not bad words and no fault of a write
pub refused-no_words : (status : ℕ) → IsRefusedStatus status → status ≢ 2
refused-no_words status r = other_status status r 2 (λ e. omega (arith, e)) (λ e. omega (arith, e)) (λ e. omega (arith, e)) (λ e. omega (arith, e)) (λ e. omega (arith, e))

pub refused-no_write : (status : ℕ) → IsRefusedStatus status → status ≢ 4
refused-no_write status r = other_status status r 4 (λ e. omega (arith, e)) (λ e. omega (arith, e)) (λ e. omega (arith, e)) (λ e. omega (arith, e)) (λ e. omega (arith, e))

-- a fault of a read has its status alone
unread_fault : (fault : InputFault) (status : ℕ) → (status ≡ status_of fault) ⊎ (status ≡ 1) → status ≡ 3 → {P : Type 0} → ((at : List ℕ) → fault ≡ ReadFault at → P) → P
unread_fault (ReadFault at) status w e f = f at refl
unread_fault (TooLarge at) status (inl k) e f = absurd (omega (arith, k, e))
unread_fault (BadScript line) status (inl k) e f = absurd (omega (arith, k, e))
unread_fault (BadTable at fault) status (inl k) e f = absurd (omega (arith, k, e))
unread_fault (TooLarge at) status (inr k) e f = absurd (omega (arith, k, e))
unread_fault (BadScript line) status (inr k) e f = absurd (omega (arith, k, e))
unread_fault (BadTable at fault) status (inr k) e f = absurd (omega (arith, k, e))

pub refused-unread : (faults_old faults_new : ℕ) (old new : Option (List ℕ)) (refusal : InputRefusal) (status : ℕ) (P : Type 0) → Refuses faults_old faults_new old new refusal status → status ≡ 3
    → ((at : List ℕ) → refusal ≡ Fault (ReadFault at) → P) → P
refused-unread faults_old faults_new old new Memory status P r e f = absurd (omega (arith, r.0, e))
refused-unread faults_old faults_new old new (Fault fault) status P r e f = unread_fault fault status r.which e {P = P} (λ at k. f at (ap Fault k))

-- ---- over told files

pub ends_memory : (outcome : Result FixedInputs InputFault) (status : ℕ) → status ≡ 1 → EndsAs outcome status
ends_memory (Ok given) status e = inr (inr (inl e))
ends_memory (Err fault) status e = inr (inl e)

ends_unread : (outcome : Result FixedInputs InputFault) (status : ℕ) → status ≡ 3 → EndsAs outcome status
ends_unread (Ok given) status e = inr (inr (inr e))
ends_unread (Err fault) status e = inr (inr e)

ends_fault : (outcome : Result FixedInputs InputFault) (fault : InputFault) (status : ℕ) → outcome ≡ Err fault → status ≡ status_of fault → EndsAs outcome status
ends_fault outcome fault status o e = subst (λ (x : Result FixedInputs InputFault). EndsAs x status) (sym o) (inl e)

told_fault : (outcome : Result FixedInputs InputFault) (fault : InputFault) (status : ℕ) → AnswersAs outcome (Err (Fault fault)) → (status ≡ status_of fault) ⊎ (status ≡ 1) → EndsAs outcome status
told_fault outcome (ReadFault at) status a (inl e) = ends_unread outcome status e
told_fault outcome (TooLarge at) status a (inl e) = ends_fault outcome (TooLarge at) status a e
told_fault outcome (BadScript line) status a (inl e) = ends_fault outcome (BadScript line) status a e
told_fault outcome (BadTable at fault) status a (inl e) = ends_fault outcome (BadTable at fault) status a e
told_fault outcome (ReadFault at) status a (inr e) = ends_memory outcome status e
told_fault outcome (TooLarge at) status a (inr e) = ends_memory outcome status e
told_fault outcome (BadScript line) status a (inr e) = ends_memory outcome status e
told_fault outcome (BadTable at fault) status a (inr e) = ends_memory outcome status e

pub told-refused : (faults_old faults_new : ℕ) (old new : Option (List ℕ)) (outcome : Result FixedInputs InputFault) (refusal : InputRefusal) (status : ℕ) → AnswersAs outcome (Err refusal)
    → Refuses faults_old faults_new old new refusal status → EndsAs outcome status
told-refused faults_old faults_new old new outcome Memory status a r = ends_memory outcome status r.0
told-refused faults_old faults_new old new outcome (Fault fault) status a r = told_fault outcome fault status a r.which

ends_run : (given : FixedInputs) (status : ℕ) → (status ≡ 0) ⊎ (status ≡ 1) ⊎ (status ≡ 4) → EndsAs (Ok given) status
ends_run given status (inl e) = inl e
ends_run given status (inr (inl e)) = inr (inr (inl e))
ends_run given status (inr (inr e)) = inr (inl e)

pub told-run : (outcome : Result FixedInputs InputFault) (given : FixedInputs) (status : ℕ) → AnswersAs outcome (Ok given) → (status ≡ 0) ⊎ (status ≡ 1) ⊎ (status ≡ 4) → EndsAs outcome status
told-run outcome given status a w = subst (λ (x : Result FixedInputs InputFault). EndsAs x status) (sym a) (ends_run given status w)

-- over inputs, where nothing outside fails
pub complete-told : (given : FixedInputs) (status : ℕ) → EndsAs (Ok given) status → status ≢ 3 → status ≢ 4 → (status ≡ 0) ⊎ (status ≡ 1)
complete-told given status (inl e) read write = inl e
complete-told given status (inr (inl e)) read write = absurd (write e)
complete-told given status (inr (inr (inl e))) read write = inr e
complete-told given status (inr (inr (inr e))) read write = absurd (read e)

-- want of memory writes nothing
pub refused-memory : (faults_old faults_new : ℕ) (old new : Option (List ℕ)) (refusal : InputRefusal) (status : ℕ) → Refuses faults_old faults_new old new refusal status → status ≡ 1 → new ≡ old
refused-memory faults_old faults_new old new Memory status r e = r.1
refused-memory faults_old faults_new old new (Fault fault) status r e = r.nothing e

-- the inputs that told files give
pub told-given : (given read : FixedInputs) → AnswersAs (Ok given) (Ok read) → given ≡ read
told-given given read e = cc

-- without an event no count has to rise
pub none-risen : {H : Type 0} (count : H → ℕ) (ends : List Event → ℕ) → ends [] ≡ 0 → (old new : List H) (history : List Event) → new ≡ old → history ≡ [] → Risen count old new (ends history)
none-risen {H = H} count ends zero_ends old new history h e =
    subst (λ (hands : List H). Risen count old hands (ends history)) (sym h)
    (subst (λ (n : ℕ). Risen count old old n) (sym (ap ends e ∙ zero_ends)) (Risen-none count old))

-- a run over inputs is not bad words and no fault of a read
pub run-no_words : (status : ℕ) → (status ≡ 0) ⊎ (status ≡ 1) ⊎ (status ≡ 4) → status ≢ 2
run-no_words status (inl e) k = omega (arith, e, k)
run-no_words status (inr (inl e)) k = omega (arith, e, k)
run-no_words status (inr (inr e)) k = omega (arith, e, k)

pub run-unread : (status : ℕ) → (status ≡ 0) ⊎ (status ≡ 1) ⊎ (status ≡ 4) → status ≢ 3
run-unread status (inl e) k = omega (arith, e, k)
run-unread status (inr (inl e)) k = omega (arith, e, k)
run-unread status (inr (inr e)) k = omega (arith, e, k)

-- why inputs were refused
pub refusal-is : (contents : Option Paths) (path : List ℕ) (refusal : InputRefusal) → ((fault : InputFault) → refusal ≡ Fault fault → IsInputFault contents path fault) → IsRefusalAt contents path refusal
refusal-is contents path Memory h = tt
refusal-is contents path (Fault fault) h = h fault refl
