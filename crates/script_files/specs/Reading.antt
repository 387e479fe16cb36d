-- What a reader of lines has read.
use Rattle.std.specs.Prelude.{◌≡◌, ◌≤◌, ◌+◌, ℕ, true, List, [], ◌∷◌, ◌++◌, Option, Some, None, if◌then◌else◌}
use Rattle.script_reader.specs.declared.fault.LineRefusal.{LineRefusal}
use Rattle.script_reader.specs.declared.fault.LineRefusal.TheVariants as of_line
use Rattle.script_reader.specs.declared.line.Counts.{Counts}
use Rattle.script_reader.specs.declared.line.Said.{Said}
use Rattle.script_reader.specs.declared.word.CommandWord.{CommandWord}
use Rattle.script_files.specs.Scripts.{counts_of, is_job, is_load, script_of, session_in, sessions_of, verb_of, with_name}
use Rattle.script_files.specs.declared.script.ScriptReader.{ScriptReader}
use Rattle.script_files.specs.declared.script.ScriptRefusal.{ScriptRefusal}
use Rattle.script_files.specs.declared.script.ScriptRefusal.TheVariants as of_script

-- the counts after one line more, with the word of its command if it is one
abbrev pub next_counts : Counts → Option CommandWord → Counts
next_counts counts None = record counts { lines = counts.lines + 1 }
next_counts counts (Some word) = record {
  lines = counts.lines + 1;
  started = true;
  loads = counts.loads + (if is_load (Some word) then 1 else 0);
  jobs = counts.jobs + (if is_job (Some word) then 1 else 0);
}

-- the counts are within what a script may have
pub record IsSmall (counts : Counts) : Type 0 where
  pub lines : counts.lines ≤ 10000
  pub loads : counts.loads ≤ counts.lines
  pub jobs : counts.jobs ≤ counts.lines

-- the reader has read these lines
pub record HasRead (before : List (List ℕ)) (reader : ScriptReader) : Type 0 where
  pub script : reader.script ≡ script_of before
  pub sessions : reader.sessions ≡ sessions_of before
  pub counts : reader.counts ≡ counts_of before

-- the reader took what a line says
pub record Takes (old new : ScriptReader) (said : Said) : Type 0 where
  pub script : new.script ≡ old.script ++ record { number = old.counts.lines + 1; verb = verb_of old.sessions said.instruction } ∷ []
  pub sessions : new.sessions ≡ with_name old.sessions (session_in (Some said.instruction))
  pub counts : new.counts ≡ next_counts old.counts (Some said.word)

-- why a script isn't read, of which the line of this number wasn't
abbrev pub refused_at : ℕ → LineRefusal → ScriptRefusal
refused_at line (of_line.Fault kind) = of_script.Fault (record { line = line; kind = kind })
refused_at line of_line.Memory = of_script.Memory
