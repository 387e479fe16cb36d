-- One line more.
use Rattle.std.proofs.Common.{◌≡◌, ◌+◌, ◌<◌, ◌≤◌, ℕ, Bool, true, false, cond, not, ◌||◌, Result, Ok, Err, OnOk, List, [], ◌∷◌, ◌++◌, Option, Some, None, length, refl, sym, ap, ◌∙◌, subst, arith, append_assoc, append-nil, length-append}
use Rattle.std.specs.Prelude.{count_by, is_some, nat_le}
use Rattle.std.specs.Str.{is_utf8}
use Rattle.std.proofs.lemmas.Bool.{leb-false}
use Rattle.std.specs.List.{list_any}
use Rattle.std.proofs.lemmas.List.Folds.{list_any-append}
use Rattle.std.proofs.lemmas.List.Sums.{fold-append, sum_by_push}
use Rattle.script_reader.specs.Faults.{fault_after, fault_of_words, first_kind, instruction_of, kind_if, most_lines, said_by_words, word_in}
use Rattle.script_reader.specs.Lines.{after_word, is_silent, text_after_word, words_of}
use Rattle.script_reader.specs.Reading.{IsPassed, IsSaid, ReadsLine}
use Rattle.script_reader.specs.declared.fault.LineRefusal.{LineRefusal}
use Rattle.script_reader.specs.declared.fault.LineRefusal.TheVariants.{Fault, Memory}
use Rattle.script_reader.specs.declared.fault.ScriptKind.{ScriptKind}
use Rattle.script_reader.specs.declared.fault.ScriptKind.TheVariants.{NotUtf8, TooManyLines}
use Rattle.script_reader.specs.declared.instruction.Instruction.{Instruction}
use Rattle.script_reader.specs.declared.line.Counts.{Counts}
use Rattle.script_reader.specs.declared.line.Said.{Said}
use Rattle.script_reader.specs.declared.word.CommandWord.{CommandWord}
use Rattle.script_text.specs.declared.verb.Line.{Line}
use Rattle.script_files.specs.Reading.{HasRead, IsSmall, Takes, next_counts}
use Rattle.script_files.specs.Scripts.{counts_of, is_command, is_job, is_load, lines_for, script_after, script_of, session_in, sessions_of, verb_of, with_name, word_of}
use Rattle.script_files.specs.declared.script.ScriptReader.{ScriptReader}

pub on_ok : {T E : Type 0} (r : Result T E) (P Q : Type 0) → (P → Q) → OnOk r P → OnOk r Q
on_ok (Ok x) P Q f h = f h
on_ok (Err e) P Q f h = tt

-- a refusal, in the place of an answer
abbrev pub refused : LineRefusal → Result (Unit {0}) LineRefusal
refused refusal = Err refusal

-- the kind of a line's fault is the one that is told
pub told_kind : (counts : Counts) (line : List ℕ) (refusal : LineRefusal) (kind : ScriptKind) → ReadsLine counts line (Err refusal) → refused refusal ≡ refused (Fault kind) → fault_after counts line ≡ Some kind
told_kind counts line (Fault found) kind h e = let same : found ≡ kind = cc in h ∙ ap Some same
told_kind counts line Memory kind h e = cc

-- there are fewer lines than there may be, where a line more has no fault
tests_passed : (u b : Bool) (rest : Option ScriptKind) → first_kind (kind_if u NotUtf8 ∷ kind_if b TooManyLines ∷ rest ∷ []) ≡ None → b ≡ false
tests_passed true b rest e = cc
tests_passed false true rest e = cc
tests_passed false false rest e = refl

lines_left : (counts : Counts) (line : List ℕ) → fault_after counts line ≡ None → counts.lines < 10000
lines_left counts line e = leb-false 10000 counts.lines (tests_passed (not (is_utf8 line)) (nat_le most_lines counts.lines) (fault_of_words counts (words_of line) (text_after_word (after_word line))) e)

one_at_most : (b : Bool) → cond b 1 0 ≤ 1
one_at_most true = omega arith
one_at_most false = omega arith

pub small_more : (old new : Counts) (line : List ℕ) (word : CommandWord) → IsSmall old → fault_after old line ≡ None → new ≡ next_counts old (Some word) → IsSmall new
small_more old new line word small sound e =
    let left = lines_left old line sound in
    subst IsSmall (sym e) (record {
      lines = omega (arith, left);
      loads = omega (arith, small.loads, one_at_most (is_load (Some word)));
      jobs = omega (arith, small.jobs, one_at_most (is_job (Some word)));
    })

-- ---- definitions over one line more

script_after-push : (before lines : List (List ℕ)) (line : List ℕ) → script_after before (lines ++ line ∷ []) ≡ script_after before lines ++ lines_for (before ++ lines) (instruction_of line)
script_after-push before [] line =
    append-nil (lines_for before (instruction_of line)) ∙ ap (λ (b : List (List ℕ)). lines_for b (instruction_of line)) (sym (append-nil before))
script_after-push before (first ∷ lines) line =
    ap (λ (l : List Line). lines_for before (instruction_of first) ++ l)
    (script_after-push (before ++ first ∷ []) lines line
    ∙ ap (λ (b : List (List ℕ)). script_after (before ++ first ∷ []) lines ++ lines_for b (instruction_of line)) (append_assoc before (first ∷ []) lines))
    ∙ sym (append_assoc (lines_for before (instruction_of first)) (script_after (before ++ first ∷ []) lines) (lines_for (before ++ first ∷ lines) (instruction_of line)))

script-push : (before : List (List ℕ)) (line : List ℕ) → script_of (before ++ line ∷ []) ≡ script_of before ++ lines_for before (instruction_of line)
script-push before line = script_after-push [] before line

sessions-push : (before : List (List ℕ)) (line : List ℕ) → sessions_of (before ++ line ∷ []) ≡ with_name (sessions_of before) (session_in (instruction_of line))
sessions-push before line = fold-append (λ names l. with_name names (session_in (instruction_of l))) [] before (line ∷ [])

same_counts : (a b : Counts) → a.lines ≡ b.lines → a.started ≡ b.started → a.loads ≡ b.loads → a.jobs ≡ b.jobs → a ≡ b
same_counts a b p q r s =
    let f : ℕ → Bool → ℕ → ℕ → Counts = λ lines started loads jobs. record { lines = lines; started = started; loads = loads; jobs = jobs } in
    ap (λ (x : ℕ). f x a.started a.loads a.jobs) p
    ∙ (ap (λ (x : Bool). f b.lines x a.loads a.jobs) q ∙ (ap (λ (x : ℕ). f b.lines b.started x a.jobs) r ∙ ap (λ (x : ℕ). f b.lines b.started b.loads x) s))

or_false : (b : Bool) → (b || (false || false)) ≡ b
or_false true = refl
or_false false = refl

or_true : (b : Bool) → (b || (true || false)) ≡ true
or_true true = refl
or_true false = refl

counted_by : (test : Option CommandWord → Bool) (before : List (List ℕ)) (line : List ℕ) (word : Option CommandWord) → word_of line ≡ word
    → count_by (λ l. test (word_of l)) (before ++ line ∷ []) ≡ count_by (λ l. test (word_of l)) before + cond (test word) 1 0
counted_by test before line word e =
    sum_by_push (λ l. cond (test (word_of l)) 1 0) before line ∙ ap (λ (w : Option CommandWord). count_by (λ l. test (word_of l)) before + cond (test w) 1 0) e

counts-push : (before : List (List ℕ)) (line : List ℕ) (word : Option CommandWord) → word_of line ≡ word → is_command line ≡ is_some word
    → counts_of (before ++ line ∷ []) ≡ next_counts (counts_of before) word
counts-push before line None e c =
    same_counts (counts_of (before ++ line ∷ [])) (next_counts (counts_of before) None) (length-append before (line ∷ []))
    (list_any-append is_command before (line ∷ []) ∙ (ap (λ (b : Bool). list_any is_command before || (b || false)) c ∙ or_false (list_any is_command before)))
    (counted_by is_load before line None e ∙ (omega arith)) (counted_by is_job before line None e ∙ (omega arith))
counts-push before line (Some word) e c =
    same_counts (counts_of (before ++ line ∷ [])) (next_counts (counts_of before) (Some word)) (length-append before (line ∷ []))
    (list_any-append is_command before (line ∷ []) ∙ (ap (λ (b : Bool). list_any is_command before || (b || false)) c ∙ or_true (list_any is_command before)))
    (counted_by is_load before line (Some word) e) (counted_by is_job before line (Some word) e)

-- ---- a line that is passed over, and one that says something

nothing_said : (words : List (List ℕ)) (sql : List ℕ) → is_silent words ≡ true → (word_in words ≡ None) × (said_by_words words sql ≡ None)
nothing_said [] sql e = (refl, refl)
nothing_said (word ∷ words) sql e = (rw e refl, rw e refl)

pub passed_read : (before : List (List ℕ)) (line : List ℕ) (old : ScriptReader) (counts : Counts) → counts ≡ next_counts old.counts None → IsPassed old.counts line
    → HasRead before old → HasRead (before ++ line ∷ []) (record old { counts = counts })
passed_read before line old counts e i h =
    let nothing = nothing_said (words_of line) (text_after_word (after_word line)) i.silent in
    record {
      script = h.script ∙ sym (script-push before line ∙ (ap (λ (x : Option Instruction). script_of before ++ lines_for before x) nothing.1 ∙ append-nil (script_of before)));
      sessions = h.sessions ∙ sym (sessions-push before line ∙ ap (λ (x : Option Instruction). with_name (sessions_of before) (session_in x)) nothing.1);
      counts = e ∙ (ap (λ (c : Counts). next_counts c None) h.counts ∙ sym (counts-push before line None nothing.0 (ap not i.silent)));
    }

pub said_read : (before : List (List ℕ)) (line : List ℕ) (old new : ScriptReader) (said : Said) → IsSaid old.counts line said → Takes old new said
    → HasRead before old → HasRead (before ++ line ∷ []) new
said_read before line old new said i t h =
    let f : List Line → ℕ → List (List ℕ) → List Line = λ script lines names. script ++ record { number = lines + 1; verb = verb_of names said.instruction } ∷ [] in
    record {
      script =
          t.script
          ∙ (ap (λ (s : List Line). f s old.counts.lines old.sessions) h.script
          ∙ (ap (λ (c : Counts). f (script_of before) c.lines old.sessions) h.counts
          ∙ (ap (λ (names : List (List ℕ)). f (script_of before) (length before) names) h.sessions
          ∙ sym (script-push before line ∙ ap (λ (x : Option Instruction). script_of before ++ lines_for before x) i.instruction))));
      sessions =
          t.sessions
          ∙ (ap (λ (names : List (List ℕ)). with_name names (session_in (Some said.instruction))) h.sessions
          ∙ sym (sessions-push before line ∙ ap (λ (x : Option Instruction). with_name (sessions_of before) (session_in x)) i.instruction));
      counts =
          t.counts
          ∙ (ap (λ (c : Counts). next_counts c (Some said.word)) h.counts ∙ sym (counts-push before line (Some said.word) i.word (ap not i.command)));
    }
