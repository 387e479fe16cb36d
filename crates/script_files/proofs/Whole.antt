-- Whole scripts, from the parts that LF parts.
use Rattle.std.proofs.Common.{◌≡◌, ◌≤◌, ◌<◌, ◌+◌, ℕ, true, false, Some, None, Result, Err, List, [], ◌∷◌, ◌++◌, length, map, take, get_or, sym, ap, ◌∙◌, subst, inl, inr, arith}
use Rattle.std.specs.List.{slice_split}
use Rattle.std.proofs.lemmas.List.{get_or-map, length-map, length-take-le, take_all, take_more}
use Rattle.std.proofs.lemmas.Simd.{map-map}
use borrow.Author.Count.{below_more}
use Rattle.script_reader.specs.Lines.{is_line_feed, lines_of, without_last}
use Rattle.script_reader.specs.declared.line.Counts.{Counts}
use Rattle.script_reader.specs.declared.fault.LineRefusal.{LineRefusal}
use Rattle.script_reader.specs.declared.fault.LineRefusal.TheVariants as of_line
use Rattle.script_files.specs.Reading.{HasRead, refused_at}
use Rattle.script_files.specs.declared.script.ScriptRefusal.{ScriptRefusal}
use Rattle.script_files.specs.declared.script.ScriptRefusal.TheVariants.{Fault}
use Rattle.script_reader.specs.Faults.{fault_after}
use Rattle.script_reader.specs.declared.fault.ScriptFault.{ScriptFault}
use Rattle.script_reader.specs.declared.fault.ScriptKind.TheVariants.{NoDescriptor}
use Rattle.script_files.specs.Scripts.{AreGood, IsFirstFault, IsScript, IsNoScript, counts_of, fault_at}
use Rattle.script_files.specs.declared.script.ScriptReader.{ScriptReader}

-- a refusal, in the place of such an answer
abbrev pub refusing : (T : Type 0) → ScriptRefusal → Result T ScriptRefusal
refusing T refusal = Err refusal

-- the line at a place is that of the part there
pub line_at : {B : Type 0} (f : B → List ℕ) (parts : List B) (i : ℕ) (d : B) (line : List ℕ) → line ≡ f (get_or parts i d) → i < length parts → get_or (map f parts) i [] ≡ line
line_at f parts i d line e h = get_or-map f parts i d [] h ∙ sym e

-- one line more was read
pub read_more : (lines : List (List ℕ)) (i : ℕ) (line : List ℕ) (new : ScriptReader) → i < length lines → get_or lines i [] ≡ line → HasRead (take i lines ++ line ∷ []) new
    → HasRead (take (i + 1) lines) new
read_more lines i line new within e h =
    subst (λ (l : List (List ℕ)). HasRead l new) (sym (take_more lines i [] within ∙ ap (λ (x : List ℕ). take i lines ++ x ∷ []) e)) h

-- and it is good
pub good_more : (lines : List (List ℕ)) (i : ℕ) (line : List ℕ) → get_or lines i [] ≡ line → fault_after (counts_of (take i lines)) line ≡ None
    → ((k : ℕ) → k < i → fault_at lines k ≡ None) → (k : ℕ) → k < i + 1 → fault_at lines k ≡ None
good_more lines i line e here before =
    below_more (λ (k : ℕ). fault_at lines k ≡ None) i before (ap (λ (l : List ℕ). fault_after (counts_of (take i lines)) l) e ∙ here)

-- or the first that has a fault
pub first_fault : (lines : List (List ℕ)) (i : ℕ) (line : List ℕ) (fault : ScriptFault) → i < length lines → get_or lines i [] ≡ line → fault_after (counts_of (take i lines)) line ≡ Some fault.kind
    → ((k : ℕ) → k < i → fault_at lines k ≡ None) → fault.line ≡ i + 1 → IsFirstFault lines fault
first_fault lines i line fault within e here before n = record {
  place = i;
  counted = n;
  there = within;
  kind = ap (λ (l : List ℕ). fault_after (counts_of (take i lines)) l) e ∙ here;
  before = before;
}

-- the lines are those of the whole text
pub lines_are : {B : Type 0} (now : B → List ℕ) (bytes text : List ℕ) (parts : List B) → text ≡ without_last 10 bytes → map now parts ≡ slice_split is_line_feed text
    → map (λ part. without_last 13 (now part)) parts ≡ lines_of bytes
lines_are now bytes text parts e s =
    sym (map-map (without_last 13) now parts) ∙ (ap (map (without_last 13)) s ∙ ap (λ (t : List ℕ). map (without_last 13) (slice_split is_line_feed t)) e)

pub whole_script : (bytes : List ℕ) (lines : List (List ℕ)) (reader : ScriptReader) → lines ≡ lines_of bytes → HasRead lines reader → AreGood lines → reader.counts.started ≡ true
    → IsScript bytes reader.script
whole_script bytes lines reader e h g s =
    let r = subst (λ (l : List (List ℕ)). HasRead l reader) e h in
    record {
      good = subst AreGood e g;
      command = sym (ap (λ (c : Counts). c.started) r.counts) ∙ s;
      commands = r.script;
    }

pub no_command : (bytes : List ℕ) (lines : List (List ℕ)) (reader : ScriptReader) (fault : ScriptFault) → fault ≡ record { line = 0; kind = NoDescriptor } → lines ≡ lines_of bytes → HasRead lines reader → AreGood lines
    → reader.counts.started ≡ false → IsNoScript bytes fault
no_command bytes lines reader fault z e h g s =
    let r = subst (λ (l : List (List ℕ)). HasRead l reader) e h in
    inr (z, record { good = subst AreGood e g; none = sym (ap (λ (c : Counts). c.started) r.counts) ∙ s })

pub bad_line : (bytes : List ℕ) (lines : List (List ℕ)) (fault : ScriptFault) → lines ≡ lines_of bytes → IsFirstFault lines fault → IsNoScript bytes fault
bad_line bytes lines fault e h = inl (subst (λ (l : List (List ℕ)). IsFirstFault l fault) e h)

-- a place of the parts is one of the lines
pub within_lines : {B : Type 0} (f : B → List ℕ) (parts : List B) (i : ℕ) → i < length parts → i < length (map f parts)
within_lines f parts i h = rw (length-map parts f) h

-- the number of the line after those that were read
pub number_of_next : (lines : List (List ℕ)) (i : ℕ) (reader : ScriptReader) (counts : Counts) → i < length lines → HasRead (take i lines) reader → counts ≡ reader.counts → counts.lines + 1 ≡ i + 1
number_of_next lines i reader counts within h c =
    let l : counts.lines ≡ length (take i lines) = ap (λ (x : Counts). x.lines) (c ∙ h.counts) in
    let t : length (take i lines) ≡ i = length-take-le i lines (omega arith) in
    omega arith

-- the fault that is told
pub told_fault : (T : Type 0) (told fault : ScriptFault) → refusing T (Fault told) ≡ refusing T (Fault fault) → told ≡ fault
told_fault T told fault e = cc

-- the line that wasn't read has the fault that is told
pub told_at : (T : Type 0) (line : ℕ) (refusal : LineRefusal) (fault : ScriptFault) → refusing T (refused_at line refusal) ≡ refusing T (Fault fault) → (refusal ≡ of_line.Fault fault.kind) × (fault.line ≡ line)
told_at T line (of_line.Fault kind) fault e =
    let told = told_fault T (record { line = line; kind = kind }) fault e in
    (ap (λ (f : ScriptFault). of_line.Fault f.kind) told, sym (ap (λ (f : ScriptFault). f.line) told))
told_at T line of_line.Memory fault e = cc

-- all lines were read
pub read_all : (lines : List (List ℕ)) (i : ℕ) (reader : ScriptReader) → length lines ≤ i → HasRead (take i lines) reader → HasRead lines reader
read_all lines i reader past h = subst (λ (l : List (List ℕ)). HasRead l reader) (take_all i lines past) h

pub good_all : (lines : List (List ℕ)) (i : ℕ) → length lines ≤ i → ((k : ℕ) → k < i → fault_at lines k ≡ None) → AreGood lines
good_all lines i past before = λ k h. before k (omega arith)

pub no_parts_more : {B : Type 0} (f : B → List ℕ) (parts : List B) (i : ℕ) → length parts ≤ i → length (map f parts) ≤ i
no_parts_more f parts i h = rw (length-map parts f) h

-- a refusal is the same with another answer beside it
pub same_refusal : (T U : Type 0) (a b : ScriptRefusal) → refusing T a ≡ refusing T b → refusing U a ≡ refusing U b
same_refusal T U a b e =
    let same : a ≡ b = cc in
    ap (refusing U) same
