-- What a hand tells of the faults that attempts meet, and of its calls.
use Rattle.std.specs.Prelude.{◌≡◌, ◌⊎◌, ◌==◌, ◌&&◌, ◌++◌, [], ◌∷◌, ℕ, List, Bool, Option, Some, None, Result, Ok, Err, ⊤, find, option_map}
use Rattle.outside.specs.declared.hand.HandFault.{HandFault}
use Rattle.outside.specs.declared.hand.HandFault.TheVariants.{Memory}

-- this attempt of this job meets this fault
pub record Fail : Type 0 where
  pub job : ℕ
  pub attempt : ℕ
  pub fault : HandFault

-- a call of run: this attempt of this job, and the bytes of its task
pub record Call : Type 0 where
  pub job : ℕ
  pub attempt : ℕ
  pub task : List ℕ

abbrev pub call_of : ℕ → ℕ → List ℕ → Call
call_of job attempt task = record { job = job; attempt = attempt; task = task }

-- whether a fault is met by this attempt of this job
abbrev pub is_fail_of : ℕ → ℕ → Fail → Bool
is_fail_of job attempt fail = (fail.job == job) && (fail.attempt == attempt)

-- the first fault that stands there for this attempt of this job
abbrev pub fault_for : ℕ → ℕ → List Fail → Option HandFault
fault_for job attempt fails = option_map (λ fail. fail.fault) (find (is_fail_of job attempt) fails)

-- where the faults are told, the answer is the first one for the attempt, or Ok where there is none; or want of memory
abbrev pub AnswersFails : {A : Type 0} → Option (List Fail) → ℕ → ℕ → Result A HandFault → Type 0
AnswersFails None job attempt answer = ⊤
AnswersFails (Some fails) job attempt (Ok product) = fault_for job attempt fails ≡ None
AnswersFails (Some fails) job attempt (Err fault) = (fault ≡ Memory) ⊎ (fault_for job attempt fails ≡ Some fault)

-- the calls with one more, where they are told
abbrev pub with_call : Option (List Call) → Call → Option (List Call)
with_call calls call = option_map (λ before. before ++ call ∷ []) calls
