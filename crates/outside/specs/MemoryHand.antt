-- What a hand in memory keeps.
use Rattle.std.specs.Prelude.{◌≡◌, ◌⊎◌, ◌++◌, [], ◌∷◌, ℕ, List, Vec, Option, Some, None, Result, Ok, Err, take}
use Rattle.std.specs.declared.alloc.Global.{Global}
use Rattle.outside.specs.Counts.{raised}
use Rattle.outside.specs.Fates.{fault_of}
use Rattle.outside.specs.Hands.{Call}
use Rattle.outside.specs.declared.fate.Fate.{Fate}
use Rattle.outside.specs.declared.fate.Fate.TheVariants as fate
use Rattle.outside.specs.declared.fate.Fated.{Fated}
use Rattle.outside.specs.declared.hand.HandFault.{HandFault}
use Rattle.outside.specs.declared.hand.HandFault.TheVariants.{Memory, NotStarted, Ended, Killed, NoFile}
use Rattle.outside.specs.declared.memory_hand.Call.{Call as HeldCall}

-- the fates, the calls so far, what killed attempts left, and the counts
pub record HandState : Type 0 where
  pub fates : List Fated
  pub calls : List Call
  pub leftovers : List (List ℕ)
  pub runs : ℕ
  pub faults : ℕ

-- a call as it is kept
abbrev pub call_held : HeldCall → Call
call_held call = record { job = call.job; attempt = call.attempt; task = call.task.items }

-- what the attempts left once this one met its fate: of a killed one the first bytes of its product
abbrev pub after_kill : Option Fate → List ℕ → List (List ℕ) → List (List ℕ)
after_kill None product before = before
after_kill (Some (fate.Killed bytes)) product before = before ++ take bytes product ∷ []
after_kill (Some fate.NotStarted) product before = before
after_kill (Some (fate.Status status)) product before = before
after_kill (Some fate.NoFile) product before = before

-- the answer of an attempt with this fate and this product; or want of memory
abbrev pub MeetsFate : Option Fate → List ℕ → Result (Vec ℕ Global) HandFault → Type 0
MeetsFate fate product (Ok answer) = (fate ≡ None) × (answer.items ≡ product)
MeetsFate None product (Err fault) = fault ≡ Memory
MeetsFate (Some fate) product (Err fault) = (fault ≡ Memory) ⊎ (fault ≡ fault_of fate)

-- a count of faults after an answer: every fault but want of memory raises it
abbrev pub faults_after : {A : Type 0} → Result A HandFault → ℕ → ℕ
faults_after (Ok product) before = before
faults_after (Err Memory) before = before
faults_after (Err NotStarted) before = raised before
faults_after (Err (Ended status)) before = raised before
faults_after (Err Killed) before = raised before
faults_after (Err NoFile) before = raised before
