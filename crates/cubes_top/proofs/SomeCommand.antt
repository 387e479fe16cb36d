-- A script of the fixed cube has a command.
use Rattle.std.proofs.Common.{◌≡◌, ◌≢◌, ℕ, suc, ◌<◌, Bool, true, false, not, ◌||◌, ◌==◌, Option, Some, None, Result, Ok, Err, List, [], ◌∷◌, ◌++◌, length, take, refl, sym, ap, ◌∙◌, arith}
use Rattle.std.specs.Prelude.{is_some, slice_index, slice_index_or, if◌then◌else◌}
use Rattle.std.specs.List.{AllByRecursion, list_any}
use Rattle.fixed_script.specs.Scripts.{AreGood, counts_of, is_command, is_fixed_said, lines_for, script_after}
use Rattle.outside.specs.Contents.{Paths}
use Rattle.run_inputs.specs.Inputs.{AreInputsAt}
use Rattle.run_inputs.specs.declared.inputs.FixedInputs.{FixedInputs}
use Rattle.script_reader.specs.Faults.{fault_after, fault_by_word, fault_of_words, first_kind, instruction_of, kind_in, order_fault, room_fault, said_by_word, said_by_words, said_in}
use Rattle.script_reader.specs.Instructions.{command_word, said_by}
use Rattle.script_reader.specs.Lines.{after_word, hash, is_passed_over, is_silent, lines_of, text_after_word, words_of}
use Rattle.script_reader.specs.declared.fault.ScriptKind.{ScriptKind}
use Rattle.script_reader.specs.declared.instruction.Instruction.{Instruction}
use Rattle.script_reader.specs.declared.line.Counts.{Counts}
use Rattle.script_reader.specs.declared.word.CommandWord.{CommandWord}
use Rattle.script_text.specs.declared.verb.Line.{Line}

-- where no kind of three applies, the second and the third don't
second_kind : (a b : Option ScriptKind) (rest : List (Option ScriptKind)) → is_some (first_kind (a ∷ b ∷ rest)) ≡ false → is_some b ≡ false
second_kind None None rest h = refl
second_kind None (Some fault) rest h = h
second_kind (Some fault) None rest h = refl
second_kind (Some fault) (Some other) rest h = h

third_kind : (a b c : Option ScriptKind) → is_some (first_kind (a ∷ b ∷ c ∷ [])) ≡ false → is_some c ≡ false
third_kind None b c h = second_kind b c [] h
third_kind (Some fault) b None h = refl
third_kind (Some fault) b (Some other) h = h

-- ---- a line that isn't passed over and has no fault says something

said_result : (r : Result Instruction ScriptKind) → is_some (kind_in r) ≡ false → is_some (said_in r) ≡ true
said_result (Ok said) h = refl
said_result (Err fault) h = cc

said_word : (before : Counts) (word : Option CommandWord) (words : List (List ℕ)) (sql : List ℕ) → is_some (fault_by_word before word words sql) ≡ false → is_some (said_by_word word words sql) ≡ true
said_word before None words sql h = cc
said_word before (Some word) words sql h =
    said_result (said_by word words sql) (second_kind (order_fault before.started word) (kind_in (said_by word words sql)) (room_fault before word ∷ []) h)

said_first : (before : Counts) (b : Bool) (word : Option CommandWord) (words : List (List ℕ)) (sql : List ℕ) → b ≡ false → is_some (if b then None else fault_by_word before word words sql) ≡ false
    → is_some (if b then None else said_by_word word words sql) ≡ true
said_first before true word words sql e h = cc
said_first before false word words sql e h = said_word before word words sql h

said_words : (before : Counts) (words : List (List ℕ)) (sql : List ℕ) → is_silent words ≡ false → is_some (fault_of_words before words sql) ≡ false → is_some (said_by_words words sql) ≡ true
said_words before [] sql e h = cc
said_words before (word ∷ words) sql e h = said_first before (slice_index word 0 == hash) (command_word word) words sql e h

said_line : (before : Counts) (line : List ℕ) → is_some (fault_after before line) ≡ false → is_passed_over line ≡ false → is_some (instruction_of line) ≡ true
said_line before line h e =
    said_words before (words_of line) (text_after_word (after_word line)) e
    (third_kind _ _ (fault_of_words before (words_of line) (text_after_word (after_word line))) h)

-- ---- so a script of which no line is bad has a command

Says : List ℕ → Type 0
Says line = is_passed_over line ≡ false → is_some (instruction_of line) ≡ true

first_of : (a b : Bool) → (a || b) ≡ false → a ≡ false
first_of true b h = h
first_of false b h = refl

at_places : (P : List ℕ → Type 0) (lines : List (List ℕ)) → ((k : ℕ) → k < length lines → P (slice_index_or lines k [])) → AllByRecursion P lines
at_places P [] h = tt
at_places P (line ∷ lines) h = (h 0 (omega arith), at_places P lines (λ k b. h (suc k) (omega (arith, b))))

all_say : (lines : List (List ℕ)) → AreGood lines → AllByRecursion Says lines
unfolding Says
all_say lines good = at_places Says lines (λ k h e.
    said_line (counts_of (take k lines)) (slice_index_or lines k [])
    (first_of (is_some (fault_after (counts_of (take k lines)) (slice_index_or lines k []))) (not (is_fixed_said (instruction_of (slice_index_or lines k [])))) (good k h)) e)

passed_over : (b : Bool) (said : Option Instruction) → said ≡ None → (b ≡ false → is_some said ≡ true) → b ≡ true
passed_over true said e h = refl
passed_over false said e h = absurd (let no : is_some said ≡ false = ap is_some e in let yes : is_some said ≡ true = h refl in cc)

rest_any : (b c : Bool) → b ≡ true → (not b || c) ≡ true → c ≡ true
rest_any true c e h = h
rest_any false c e h = cc

some_one : (before : List (List ℕ)) (line : List ℕ) (later : List Line) (any : Bool) (said : Option Instruction) → instruction_of line ≡ said → Says line → (any ≡ true → later ≢ [])
    → (is_command line || any) ≡ true → lines_for before said ++ later ≢ []
unfolding Says
some_one before line later any None e says rest h none =
    rest (rest_any (is_passed_over line) any (passed_over (is_passed_over line) (instruction_of line) e says) h) none
some_one before line later any (Some said) e says rest h none = cc

some_line : (before lines : List (List ℕ)) → AllByRecursion Says lines → list_any is_command lines ≡ true → script_after before lines ≢ []
some_line before [] all any none = cc
some_line before (line ∷ lines) all any none =
    some_one before line (script_after (before ++ line ∷ []) lines) (list_any is_command lines) (instruction_of line) refl all.0 (some_line (before ++ line ∷ []) lines all.1) any none

pub some-command : (contents : Option Paths) (path : List ℕ) (given : FixedInputs) → AreInputsAt contents path given → given.script ≢ []
some-command contents path given i none =
    let script = i.script.holds in
    some_line [] (lines_of i.script.bytes) (all_say (lines_of i.script.bytes) script.good) script.command (sym script.commands ∙ none)
