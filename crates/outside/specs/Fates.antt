-- What attempts meet at a hand in memory.
use Rattle.std.specs.Prelude.{◌==◌, ◌&&◌, ℕ, List, Option, find, option_map}
use Rattle.outside.specs.Hands.{Fail}
use Rattle.outside.specs.declared.fate.Fate.{Fate}
use Rattle.outside.specs.declared.fate.Fate.TheVariants as fate
use Rattle.outside.specs.declared.fate.Fated.{Fated}
use Rattle.outside.specs.declared.hand.HandFault.{HandFault}
use Rattle.outside.specs.declared.hand.HandFault.TheVariants as fault

-- the fault that a fate is answered with
abbrev pub fault_of : Fate → HandFault
fault_of (fate.Killed bytes) = fault.Killed
fault_of fate.NotStarted = fault.NotStarted
fault_of (fate.Status status) = fault.Ended status
fault_of fate.NoFile = fault.NoFile

-- the fault that a fated attempt meets
abbrev pub fail_of : Fated → Fail
fail_of fated = record { job = fated.job; attempt = fated.attempt; fault = fault_of fated.fate }

-- the first fate of this attempt of this job
abbrev pub fate_for : ℕ → ℕ → List Fated → Option Fate
fate_for job attempt fates = option_map (λ fated. fated.fate) (find (λ fated. (fated.job == job) && (fated.attempt == attempt)) fates)
