-- What `step` leaves: a task is at one path, and its product comes to another one.
use Rattle.std.specs.Prelude.{◌≡◌, ◌≢◌, ◌⊎◌, ℕ, List, Option, Some, None}
use Rattle.fault_lines.specs.Files.{TellsNothingAt}
use Rattle.fault_lines.specs.Lines.{Appends, bad_task_line, read_fault_line, stopped_line}
use Rattle.outside.specs.Contents.{Paths, SameElsewhere, StandsAt}
use Rattle.outside.specs.Counts.{Rose}
use Rattle.outside.specs.Watches.{HoldsIfTold, there_at}

-- the bytes of a file are a task; they stand at the path, where the contents are told
abbrev pub TaskAt : (List ℕ → Type 0) → Option Paths → List ℕ → Type 0
TaskAt is_task contents path = (bytes : List ℕ) × StandsAt contents path bytes × is_task bytes

-- .. and are no task
abbrev pub NoTaskAt : (List ℕ → Type 0) → Option Paths → List ℕ → Type 0
NoTaskAt is_task contents path = (bytes : List ℕ) × StandsAt contents path bytes × (is_task bytes → ⊥)

-- the contents are told, and a task is at the path
abbrev pub TellsTaskAt : (List ℕ → Type 0) → Option Paths → List ℕ → Type 0
TellsTaskAt is_task None path = ⊥
TellsTaskAt is_task (Some paths) path = TaskAt is_task (Some paths) path

-- the contents are told, and a file is at the path that is no task
abbrev pub TellsNoTaskAt : (List ℕ → Type 0) → Option Paths → List ℕ → Type 0
TellsNoTaskAt is_task None path = ⊥
TellsNoTaskAt is_task (Some paths) path = NoTaskAt is_task (Some paths) path

-- the bytes of a file were a task; where the contents are told, it stood at the one path, and now its product stands at the other one
abbrev pub ProducedAt : (List ℕ → Type 0) → (List ℕ → List ℕ) → Option Paths → Option Paths → List ℕ → List ℕ → Type 0
ProducedAt is_task text None new task product = (bytes : List ℕ) × is_task bytes
ProducedAt is_task text (Some old) None task product = ⊥
ProducedAt is_task text (Some old) (Some new) task product = (bytes : List ℕ) × (old task ≡ Some bytes) × is_task bytes × (new product ≡ Some (text bytes))

-- ---- the whole of a call

-- what files tell and count at one moment
pub record FilesAt : Type 0 where
  pub contents : Option Paths
  pub faults : ℕ
  pub write_faults : ℕ
  pub seen : ℕ

abbrev pub files_at : Option Paths → ℕ → ℕ → ℕ → FilesAt
files_at contents faults write_faults seen = record { contents = contents; faults = faults; write_faults = write_faults; seen = seen }

-- what a sink tells and counts at one moment
pub record SinkAt : Type 0 where
  pub written : Option (List ℕ)
  pub faults : ℕ

abbrev pub sink_at : Option (List ℕ) → ℕ → SinkAt
sink_at written faults = record { written = written; faults = faults }

-- one fault line
abbrev pub HasLine : SinkAt → SinkAt → List ℕ → Type 0
HasLine old new line = Appends old.faults new.faults old.written new.written line

-- nothing is seen at the path, or nothing stands there
abbrev pub IsNotStopped : FilesAt → FilesAt → List ℕ → Type 0
IsNotStopped old new stop = (¬ (Rose old.seen new.seen)) ⊎ TellsNothingAt old.contents stop

-- a call of `step` with these paths, between two moments of the files and of the sink, has this status
pub record IsStepRun (is_task : List ℕ → Type 0) (text : List ℕ → List ℕ) (old new : FilesAt) (before after : SinkAt) (task product stop : List ℕ) (status : ℕ) : Type 0 where
  pub which : (status ≡ 0) ⊎ (status ≡ 1) ⊎ (status ≡ 3) ⊎ (status ≡ 4) ⊎ (status ≡ 5) ⊎ (status ≡ 9)
  -- done, and what else has no fault line
  pub done : status ≡ 0 → ProducedAt is_task text old.contents new.contents task product
  pub write_fault : status ≡ 4 → Rose old.faults new.faults × Rose old.write_faults new.write_faults × TaskAt is_task old.contents task
  pub silent : (status ≡ 0) ⊎ (status ≡ 1) ⊎ (status ≡ 4) → after.written ≡ before.written
  -- the causes of faults, and their lines
  pub read_fault : status ≡ 3 → Rose old.faults new.faults × HasLine before after (read_fault_line task)
  pub stopped : status ≡ 5 → Rose old.seen new.seen × HoldsIfTold (there_at old.contents stop) × TaskAt is_task old.contents task × HasLine before after stopped_line
  pub bad_task : status ≡ 9 → NoTaskAt is_task old.contents task × HasLine before after bad_task_line
  -- what the status is over files that tell what they hold
  pub no_task : TellsNoTaskAt is_task old.contents task → (status ≡ 9) ⊎ (status ≡ 3) ⊎ (status ≡ 1)
  pub nothing_there : TellsNothingAt old.contents task → (status ≡ 3) ⊎ (status ≡ 1)
  pub complete : TellsTaskAt is_task old.contents task → ¬ (Rose old.faults new.faults) → IsNotStopped old new stop → (status ≡ 0) ⊎ (status ≡ 1)
  -- what stays as it was
  pub elsewhere : SameElsewhere old.contents new.contents product
  pub contents : status ≢ 0 → status ≢ 4 → new.contents ≡ old.contents
  pub write_faults : (status ≡ 3) ⊎ (status ≡ 5) ⊎ (status ≡ 9) → new.write_faults ≡ old.write_faults
