-- What a sink in memory keeps.
use Rattle.std.specs.Prelude.{ℕ, List, Result, Ok, Err}
use Rattle.outside.specs.Counts.{raised}
use Rattle.outside.specs.Numbering.{Numbering}
use Rattle.outside.specs.declared.sink.SinkFault.{SinkFault}
use Rattle.outside.specs.declared.sink.SinkFault.TheVariants.{Memory, Failed}

-- what was written, the calls, and how many failed
pub record SinkState : Type 0 where
  pub bytes : List ℕ
  pub calls : Numbering
  pub faults : ℕ

-- a count of faults after an answer: only a failed call raises it
abbrev pub faults_after : {A : Type 0} → Result A SinkFault → ℕ → ℕ
faults_after (Ok answer) before = before
faults_after (Err Memory) before = before
faults_after (Err Failed) before = raised before
