-- What files and sink tell of a call.
use Rattle.std.specs.Prelude.{ℕ, List, Option}
use Rattle.outside.specs.Contents.{Paths}
use Rattle.outside.specs.Counts.{Rose}

-- the contents of the files, how often files failed and how often writes to the sink failed, and what was written to it, before the call
-- and after it
pub record Outside : Type 0 where
  pub contents : Option Paths
  pub files_before : ℕ
  pub files_after : ℕ
  pub sink_before : ℕ
  pub sink_after : ℕ
  pub before : Option (List ℕ)
  pub after : Option (List ℕ)

abbrev pub seen : Option Paths → ℕ → ℕ → ℕ → ℕ → Option (List ℕ) → Option (List ℕ) → Outside
seen contents files_before files_after sink_before sink_after before after = record {
  contents = contents;
  files_before = files_before;
  files_after = files_after;
  sink_before = sink_before;
  sink_after = sink_after;
  before = before;
  after = after;
}

-- no file failed, and no write to the sink
abbrev pub HasNoFault : Outside → Type 0
HasNoFault o = (¬ (Rose o.files_before o.files_after)) × (¬ (Rose o.sink_before o.sink_after))
