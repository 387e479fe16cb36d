-- What a stopper in memory keeps.
use Rattle.std.specs.Prelude.{ℕ, List, Result, Ok, Err}
use Rattle.outside.specs.Counts.{raised}
use Rattle.outside.specs.Numbering.{Numbering}
use Rattle.outside.specs.declared.stopper.Request.{Request}
use Rattle.outside.specs.declared.stopper.StopFault.{StopFault}
use Rattle.outside.specs.declared.stopper.StopFault.TheVariants.{Memory, Failed}

-- the requests so far, the calls, and the counts
pub record StopperState : Type 0 where
  pub requests : List Request
  pub calls : Numbering
  pub asks : ℕ
  pub faults : ℕ

-- a count of faults after an answer: only a failed call raises it
abbrev pub faults_after : {A : Type 0} → Result A StopFault → ℕ → ℕ
faults_after (Ok answer) before = before
faults_after (Err Memory) before = before
faults_after (Err Failed) before = raised before
