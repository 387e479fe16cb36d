-- Whole scripts, from the parts that LF parts.
use Rattle.std.proofs.Common.{◌≡◌, ◌≤◌, ◌<◌, ◌+◌, ℕ, true, false, Result, Err, List, [], ◌∷◌, ◌++◌, length, map, take, get_or, sym, ap, ◌∙◌, subst, inl, inr, arith}
use Rattle.std.specs.List.{slice_split}
use Rattle.std.proofs.lemmas.List.{get_or-map, length-map, length-take-le, take_all, take_more}
use Rattle.std.proofs.lemmas.Simd.{map-map}
use borrow.Author.Count.{below_more}
use Rattle.script_reader.specs.Lines.{is_line_feed, lines_of, without_last}
use Rattle.script_reader.specs.declared.line.Counts.{Counts}
use Rattle.fixed_script.specs.Reading.{HasRead}
use Rattle.fixed_script.specs.declared.script.FixedScriptRefusal.{FixedScriptRefusal}
use Rattle.fixed_script.specs.declared.script.FixedScriptRefusal.TheVariants.{BadScript}
use Rattle.fixed_script.specs.Scripts.{AreGood, IsFirstBadLine, IsFixedScript, IsNoFixedScript, is_bad_after, is_bad_at}
use Rattle.fixed_script.specs.declared.script.ScriptReader.{ScriptReader}

-- a refusal, in the place of such an answer
abbrev pub refusing : (T : Type 0) → FixedScriptRefusal → Result T FixedScriptRefusal
refusing T refusal = Err refusal

-- the line at a place is that of the part there
pub line_at : {B : Type 0} (f : B → List ℕ) (parts : List B) (i : ℕ) (d : B) (line : List ℕ) → line ≡ f (get_or parts i d) → i < length parts → get_or (map f parts) i [] ≡ line
line_at f parts i d line e h = get_or-map f parts i d [] h ∙ sym e

-- one line more was read
pub read_more : (lines : List (List ℕ)) (i : ℕ) (line : List ℕ) (new : ScriptReader) → i < length lines → get_or lines i [] ≡ line → HasRead (take i lines ++ line ∷ []) new
    → HasRead (take (i + 1) lines) new
read_more lines i line new within e h =
    subst (λ (l : List (List ℕ)). HasRead l new) (sym (take_more lines i [] within ∙ ap (λ (x : List ℕ). take i lines ++ x ∷ []) e)) h

-- and it is good
pub good_more : (lines : List (List ℕ)) (i : ℕ) (line : List ℕ) → get_or lines i [] ≡ line → is_bad_after (take i lines) line ≡ false
    → ((k : ℕ) → k < i → is_bad_at lines k ≡ false) → (k : ℕ) → k < i + 1 → is_bad_at lines k ≡ false
good_more lines i line e here before =
    below_more (λ (k : ℕ). is_bad_at lines k ≡ false) i before (ap (λ (l : List ℕ). is_bad_after (take i lines) l) e ∙ here)

-- or the first that is bad
pub first_bad : (lines : List (List ℕ)) (i : ℕ) (line : List ℕ) (number : ℕ) → i < length lines → get_or lines i [] ≡ line → is_bad_after (take i lines) line ≡ true
    → ((k : ℕ) → k < i → is_bad_at lines k ≡ false) → number ≡ i + 1 → IsFirstBadLine lines number
first_bad lines i line number within e here before n = record {
  place = i;
  counted = n;
  there = within;
  bad = ap (λ (l : List ℕ). is_bad_after (take i lines) l) e ∙ here;
  before = before;
}

-- the lines are those of the whole text
pub lines_are : {B : Type 0} (now : B → List ℕ) (bytes text : List ℕ) (parts : List B) → text ≡ without_last 10 bytes → map now parts ≡ slice_split is_line_feed text
    → map (λ part. without_last 13 (now part)) parts ≡ lines_of bytes
lines_are now bytes text parts e s =
    sym (map-map (without_last 13) now parts) ∙ (ap (map (without_last 13)) s ∙ ap (λ (t : List ℕ). map (without_last 13) (slice_split is_line_feed t)) e)

pub whole_script : (bytes : List ℕ) (lines : List (List ℕ)) (reader : ScriptReader) → lines ≡ lines_of bytes → HasRead lines reader → AreGood lines → reader.counts.started ≡ true
    → IsFixedScript bytes reader.script
whole_script bytes lines reader e h g s =
    let r = subst (λ (l : List (List ℕ)). HasRead l reader) e h in
    record {
      good = subst AreGood e g;
      command = sym (ap (λ (c : Counts). c.started) r.counts) ∙ s;
      commands = r.script;
    }

pub no_command : (bytes : List ℕ) (lines : List (List ℕ)) (reader : ScriptReader) (number : ℕ) → number ≡ 0 → lines ≡ lines_of bytes → HasRead lines reader → AreGood lines
    → reader.counts.started ≡ false → IsNoFixedScript bytes number
no_command bytes lines reader number z e h g s =
    let r = subst (λ (l : List (List ℕ)). HasRead l reader) e h in
    inr (z, record { good = subst AreGood e g; none = sym (ap (λ (c : Counts). c.started) r.counts) ∙ s })

pub bad_line : (bytes : List ℕ) (lines : List (List ℕ)) (number : ℕ) → lines ≡ lines_of bytes → IsFirstBadLine lines number → IsNoFixedScript bytes number
bad_line bytes lines number e h = inl (subst (λ (l : List (List ℕ)). IsFirstBadLine l number) e h)

-- a place of the parts is one of the lines
pub within_lines : {B : Type 0} (f : B → List ℕ) (parts : List B) (i : ℕ) → i < length parts → i < length (map f parts)
within_lines f parts i h = rw (length-map parts f) h

-- the number of the line after those that were read
pub number_of_next : (lines : List (List ℕ)) (i : ℕ) (reader : ScriptReader) (counts : Counts) (number : ℕ) → i < length lines → HasRead (take i lines) reader → counts ≡ reader.counts
    → refusing ScriptReader (BadScript (counts.lines + 1)) ≡ refusing ScriptReader (BadScript number) → number ≡ i + 1
number_of_next lines i reader counts number within h c e =
    let n : number ≡ counts.lines + 1 = cc in
    let l : counts.lines ≡ length (take i lines) = ap (λ (x : Counts). x.lines) (c ∙ h.counts) in
    let t : length (take i lines) ≡ i = length-take-le i lines (omega arith) in
    omega arith

-- all lines were read
pub read_all : (lines : List (List ℕ)) (i : ℕ) (reader : ScriptReader) → length lines ≤ i → HasRead (take i lines) reader → HasRead lines reader
read_all lines i reader past h = subst (λ (l : List (List ℕ)). HasRead l reader) (take_all i lines past) h

pub good_all : (lines : List (List ℕ)) (i : ℕ) → length lines ≤ i → ((k : ℕ) → k < i → is_bad_at lines k ≡ false) → AreGood lines
good_all lines i past before = λ k h. before k (omega arith)

pub no_parts_more : {B : Type 0} (f : B → List ℕ) (parts : List B) (i : ℕ) → length parts ≤ i → length (map f parts) ≤ i
no_parts_more f parts i h = rw (length-map parts f) h

-- a refusal is the same with another answer beside it
pub same_refusal : (T U : Type 0) (a b : FixedScriptRefusal) → refusing T a ≡ refusing T b → refusing U a ≡ refusing U b
same_refusal T U a b e =
    let same : a ≡ b = cc in
    ap (refusing U) same

pub zero_line : (T : Type 0) (number : ℕ) → refusing T (BadScript 0) ≡ refusing T (BadScript number) → number ≡ 0
zero_line T number e = cc
