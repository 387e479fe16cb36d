-- What the words of a line say, by cases.
use Rattle.std.proofs.Common.{◌≡◌, ℕ, true, false, ◌==◌, List, [], ◌∷◌, Option, Some, None, Result, Ok, Err, refl, sym, ap, subst, slice_index}
use Rattle.std.specs.Prelude.{nat_le}
use Rattle.std.specs.Str.{is_utf8}
use Rattle.script_reader.specs.Faults.{most_lines}
use Rattle.script_reader.specs.Instructions.{command_word}
use Rattle.script_reader.specs.Lines.{after_word, hash, text_after_word, words_of}
use Rattle.script_reader.specs.Reading.{ReadsCommand, ReadsLine, ReadsWords}
use Rattle.script_reader.specs.declared.fault.LineRefusal.{LineRefusal}
use Rattle.script_reader.specs.declared.fault.LineRefusal.TheVariants.{Fault, Memory}
use Rattle.script_reader.specs.declared.fault.ScriptKind.TheVariants as kind
use Rattle.script_reader.specs.declared.line.Counts.{Counts}
use Rattle.script_reader.specs.declared.line.Said.{Said}
use Rattle.script_reader.specs.declared.word.CommandWord.{CommandWord}

-- a line without words
pub reads_nothing : (before : Counts) (words : List (List ℕ)) (sql : List ℕ) → words ≡ [] → ReadsWords before words sql (Ok None)
reads_nothing before [] sql e = (refl, refl)
reads_nothing before (word ∷ words) sql e = absurd cc

module _ (before : Counts) (word : List ℕ) (words : List (List ℕ)) (sql : List ℕ) where
  pub reads_comment : (slice_index word 0 == hash) ≡ true → ReadsWords before (word ∷ words) sql (Ok None)
  reads_comment e = (rw e refl, e)

  pub reads_unknown : (slice_index word 0 == hash) ≡ false → command_word word ≡ None → ReadsWords before (word ∷ words) sql (Err (Fault kind.UnknownCommand))
  reads_unknown e none = rw (e, none) refl

  pub reads_said : (command : CommandWord) (said : Said) → (slice_index word 0 == hash) ≡ false → command_word word ≡ Some command
      → ReadsCommand before command words sql (Ok said) → ReadsWords before (word ∷ words) sql (Ok (Some said))
  reads_said command said e there h =
      (rw (e, there) h.0, e, rw (e, there) (ap (λ (c : CommandWord). Some c) (sym h.2)), rw (e, there, h.1) refl)

  pub reads_refusal : (command : CommandWord) (refusal : LineRefusal) → (slice_index word 0 == hash) ≡ false → command_word word ≡ Some command
      → ReadsCommand before command words sql (Err refusal) → ReadsWords before (word ∷ words) sql (Err refusal)
  reads_refusal command (Fault kind) e there h = rw (e, there) h
  reads_refusal command Memory e there h = tt

-- ---- a line

pub reads_line : (before : Counts) (line : List ℕ) (r : Result (Option Said) LineRefusal) → is_utf8 line ≡ true → nat_le most_lines before.lines ≡ false
    → ReadsWords before (words_of line) (text_after_word (after_word line)) r → ReadsLine before line r
reads_line before line (Ok None) utf8 few h = record { sound = rw (utf8, few, h.0) refl; silent = h.1 }
reads_line before line (Ok (Some said)) utf8 few h = record { sound = rw (utf8, few, h.0) refl; command = h.1; word = h.2; instruction = h.3 }
reads_line before line (Err (Fault kind)) utf8 few h = rw (utf8, few, h) refl
reads_line before line (Err Memory) utf8 few h = tt

-- what is read of the words behind the first one is read of the line
pub at_cut : (before : Counts) (line word rest : List ℕ) (r : Result (Option Said) LineRefusal) → words_of line ≡ word ∷ words_of rest → rest ≡ after_word line
    → ReadsWords before (word ∷ words_of rest) (text_after_word rest) r → ReadsWords before (words_of line) (text_after_word (after_word line)) r
at_cut before line word rest r e f h =
    subst (λ (t : List ℕ). ReadsWords before (words_of line) (text_after_word t) r) f
    (subst (λ (ws : List (List ℕ)). ReadsWords before ws (text_after_word rest) r) (sym e) h)
