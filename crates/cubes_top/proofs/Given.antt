-- What files give a run: lines that rise, verbs of the fixed cube's scripts, and rows for each load.
use Rattle.std.proofs.Common.{◌≡◌, ℕ, suc, ◌+◌, ◌≤◌, ◌<◌, Bool, true, false, cond, not, ◌||◌, ◌==◌, Option, Some, None, List, [], ◌∷◌, ◌++◌, length, take, All, refl, sym, ap, ◌∙◌, subst, arith, append_assoc, length-append, eq-eqb}
use Rattle.std.specs.Prelude.{codes, find, is_some, slice_index_or}
use Rattle.std.specs.List.{AllByRecursion, AllZip, list_any}
use Rattle.std.specs.Str.{bytes_eq}
use Rattle.std.proofs.lemmas.List.Elements.{All-from_recursion}
use Rattle.std.proofs.lemmas.List.Folds.{list_any-append}
use Rattle.fixed_script.specs.Scripts.{AreGood, counts_of, is_fixed, is_fixed_said, lines_for, script_after, sessions_of, verb_of}
use Rattle.outside.specs.Contents.{Paths}
use Rattle.run_inputs.specs.Inputs.{AreInputsAt, HasFittingRows, IsLoadedAt, load_of, loads_of}
use Rattle.run_inputs.specs.declared.inputs.FixedInputs.{FixedInputs}
use Rattle.run_inputs.specs.declared.inputs.LoadedTable.{LoadedTable}
use Rattle.script_reader.specs.Faults.{fault_after, instruction_of}
use Rattle.script_reader.specs.Lines.{lines_of}
use Rattle.script_reader.specs.declared.instruction.Instruction.{Instruction}
use Rattle.script_reader.specs.declared.instruction.Instruction.TheVariants as say
use Rattle.script_text.specs.declared.verb.Line.{Line}
use Rattle.script_text.specs.declared.verb.Verb.{Verb}
use Rattle.script_text.specs.declared.verb.Verb.TheVariants as verb
use Rattle.coordinator.specs.Coordinator.{AreGiven, IsServed, IsServedLine, RisesFrom}

-- ---- lines rise

rise_one : (before : List (List ℕ)) (last : ℕ) (rest : List Line) → last ≤ length before → RisesFrom last rest → RisesFrom (length before + 1) rest → (said : Option Instruction)
    → RisesFrom last (lines_for before said ++ rest)
rise_one before last rest h same more None = same
rise_one before last rest h same more (Some said) = (omega (arith, h), more)

rises_after : (before lines : List (List ℕ)) (last : ℕ) → last ≤ length before → RisesFrom last (script_after before lines)
rises_after before [] last h = tt
rises_after before (line ∷ lines) last h =
    let longer : length (before ++ line ∷ []) ≡ length before + 1 = omega (arith, length-append before (line ∷ [])) in
    rise_one before last (script_after (before ++ line ∷ []) lines) h (rises_after (before ++ line ∷ []) lines last (omega (arith, longer, h)))
    (rises_after (before ++ line ∷ []) lines (length before + 1) (omega (arith, longer))) (instruction_of line)

-- ---- verbs

-- a verb of a script of the fixed cube
IsFixedVerb : Verb → Type 0
IsFixedVerb (verb.Load name path) = bytes_eq name (codes "F") ≡ true
IsFixedVerb (verb.Refresh range) = ⊥
IsFixedVerb (verb.Merge range) = ⊥
IsFixedVerb (verb.Drop range) = ⊥
IsFixedVerb verb.Segments = ⊥
IsFixedVerb (verb.Descriptor path) = Unit {0}
IsFixedVerb (verb.Build range) = Unit {0}
IsFixedVerb (verb.Pause job) = Unit {0}
IsFixedVerb (verb.Resume job) = Unit {0}
IsFixedVerb (verb.Discard job) = Unit {0}
IsFixedVerb (verb.AwaitJob job) = Unit {0}
IsFixedVerb verb.AwaitJobs = Unit {0}
IsFixedVerb verb.AwaitQueries = Unit {0}
IsFixedVerb verb.Jobs = Unit {0}
IsFixedVerb (verb.Query session text) = Unit {0}

fixed_verb : (names : List (List ℕ)) (said : Instruction) → is_fixed said ≡ true → IsFixedVerb (verb_of names said)
unfolding IsFixedVerb
fixed_verb names (say.Load name path) h = h
fixed_verb names (say.Refresh range) h = absurd cc
fixed_verb names (say.Merge range) h = absurd cc
fixed_verb names (say.Drop range) h = absurd cc
fixed_verb names say.Segments h = absurd cc
fixed_verb names (say.Descriptor path) h = tt
fixed_verb names (say.Build range) h = tt
fixed_verb names (say.Pause job) h = tt
fixed_verb names (say.Resume job) h = tt
fixed_verb names (say.Discard job) h = tt
fixed_verb names (say.AwaitJob job) h = tt
fixed_verb names say.AwaitJobs h = tt
fixed_verb names say.AwaitQueries h = tt
fixed_verb names say.Jobs h = tt
fixed_verb names (say.Query name sql) h = tt

fixed_one : (before : List (List ℕ)) (rest : List Line) → AllByRecursion (λ (l : Line). IsFixedVerb l.verb) rest → (said : Option Instruction) → is_fixed_said said ≡ true
    → AllByRecursion (λ (l : Line). IsFixedVerb l.verb) (lines_for before said ++ rest)
fixed_one before rest h None e = h
fixed_one before rest h (Some said) e = (fixed_verb (sessions_of before) said e, h)

fixed_after : (before lines : List (List ℕ)) → AllByRecursion (λ line. is_fixed_said (instruction_of line) ≡ true) lines
    → AllByRecursion (λ (line : Line). IsFixedVerb line.verb) (script_after before lines)
fixed_after before [] h = tt
fixed_after before (line ∷ lines) h =
    fixed_one before (script_after (before ++ line ∷ []) lines) (fixed_after (before ++ line ∷ []) lines h.1) (instruction_of line) h.0

second_of : (a b : Bool) → (a || not b) ≡ false → b ≡ true
second_of true b h = absurd cc
second_of false true h = refl
second_of false false h = absurd cc

-- no line is bad, so each says what it may
good_lines : (lines : List (List ℕ)) → AreGood lines → AllByRecursion (λ line. is_fixed_said (instruction_of line) ≡ true) lines
good_lines lines good = upto lines (λ k h. second_of (is_some (fault_after (counts_of (take k lines)) (slice_index_or lines k []))) (is_fixed_said (instruction_of (slice_index_or lines k []))) (good k h)) where
  upto : (ls : List (List ℕ)) → ((k : ℕ) → k < length ls → is_fixed_said (instruction_of (slice_index_or ls k [])) ≡ true) → AllByRecursion (λ line. is_fixed_said (instruction_of line) ≡ true) ls
  upto [] h = tt
  upto (line ∷ ls) h = (h 0 (omega arith), upto ls (λ k b. h (suc k) (omega (arith, b))))

-- ---- loads

found_cut : (b : Bool) (table : LoadedTable) (number : ℕ) (rest : Option LoadedTable) → (table.line == number) ≡ b → (b ≡ false → is_some rest ≡ true)
    → is_some (cond (table.line == number) (Some table) rest) ≡ true
found_cut true table number rest e k = ap (λ (t : Bool). is_some (cond t (Some table) rest)) e
found_cut false table number rest e k = ap (λ (t : Bool). is_some (cond t (Some table) rest)) e ∙ k refl

found_table : (contents : Option Paths) (number : ℕ) (loads : List (ℕ × List ℕ)) (tables : List LoadedTable) → AllZip (IsLoadedAt contents) loads tables
    → list_any (λ load. load.0 == number) loads ≡ true → is_some (find (λ table. table.line == number) tables) ≡ true
found_table contents number [] [] h a = absurd cc
found_table contents number [] (table ∷ tables) h a = absurd h
found_table contents number (load ∷ loads) [] h a = absurd h
found_table contents number (load ∷ loads) (table ∷ tables) h a =
    let same : (table.line == number) ≡ (load.0 == number) = ap (λ (n : ℕ). n == number) h.0.0 in
    found_cut (table.line == number) table number (find (λ t. t.line == number) tables) refl
    (λ f. found_table contents number loads tables h.1 (sym (ap (λ (t : Bool). t || list_any (λ (other : ℕ × List ℕ). other.0 == number) loads) (sym same ∙ f)) ∙ a))

-- a line that loads has one of these loads
IsAmong : List (ℕ × List ℕ) → ℕ → Verb → Type 0
IsAmong loads number (verb.Load name path) = list_any (λ load. load.0 == number) loads ≡ true
IsAmong loads number said = Unit {0}

or_left : (a b : Bool) → a ≡ true → (a || b) ≡ true
or_left true b h = refl
or_left false b h = absurd cc

or_right : (a b : Bool) → b ≡ true → (a || b) ≡ true
or_right true b h = refl
or_right false b h = h

among_here : (front rest : List (ℕ × List ℕ)) (number : ℕ) (said : Verb) → IsAmong (front ++ (load_of number said ++ rest)) number said
unfolding IsAmong
among_here front rest number (verb.Load name path) =
    list_any-append (λ (load : ℕ × List ℕ). load.0 == number) front ((number, path) ∷ rest)
    ∙ or_right (list_any (λ (load : ℕ × List ℕ). load.0 == number) front) ((number == number) || list_any (λ (load : ℕ × List ℕ). load.0 == number) rest)
    (or_left (number == number) (list_any (λ (load : ℕ × List ℕ). load.0 == number) rest) (eq-eqb number number refl))
among_here front rest number (verb.Descriptor path) = tt
among_here front rest number (verb.Build range) = tt
among_here front rest number (verb.Refresh range) = tt
among_here front rest number (verb.Merge range) = tt
among_here front rest number (verb.Drop range) = tt
among_here front rest number (verb.Pause job) = tt
among_here front rest number (verb.Resume job) = tt
among_here front rest number (verb.Discard job) = tt
among_here front rest number (verb.AwaitJob job) = tt
among_here front rest number verb.AwaitJobs = tt
among_here front rest number verb.AwaitQueries = tt
among_here front rest number verb.Jobs = tt
among_here front rest number verb.Segments = tt
among_here front rest number (verb.Query session text) = tt

among_all : (front : List (ℕ × List ℕ)) (script : List Line) → AllByRecursion (λ (line : Line). IsAmong (front ++ loads_of script) line.number line.verb) script
among_all front [] = tt
among_all front (line ∷ script) = (
  among_here front (loads_of script) line.number line.verb,
  subst (λ (loads : List (ℕ × List ℕ)). AllByRecursion (λ (l : Line). IsAmong loads l.number l.verb) script) (append_assoc front (load_of line.number line.verb) (loads_of script))
      (among_all (front ++ load_of line.number line.verb) script),
)

-- ---- lines that are served

served_line : (contents : Option Paths) (loads : List (ℕ × List ℕ)) (tables : List LoadedTable) (number : ℕ) (said : Verb) → AllZip (IsLoadedAt contents) loads tables → IsFixedVerb said
    → IsAmong loads number said → IsServed tables number said
unfolding IsFixedVerb IsAmong
served_line contents loads tables number (verb.Load name path) h f a = (f, found_table contents number loads tables h a)
served_line contents loads tables number (verb.Refresh range) h f a = absurd f
served_line contents loads tables number (verb.Merge range) h f a = absurd f
served_line contents loads tables number (verb.Drop range) h f a = absurd f
served_line contents loads tables number verb.Segments h f a = absurd f
served_line contents loads tables number (verb.Descriptor path) h f a = tt
served_line contents loads tables number (verb.Build range) h f a = tt
served_line contents loads tables number (verb.Pause job) h f a = tt
served_line contents loads tables number (verb.Resume job) h f a = tt
served_line contents loads tables number (verb.Discard job) h f a = tt
served_line contents loads tables number (verb.AwaitJob job) h f a = tt
served_line contents loads tables number verb.AwaitJobs h f a = tt
served_line contents loads tables number verb.AwaitQueries h f a = tt
served_line contents loads tables number verb.Jobs h f a = tt
served_line contents loads tables number (verb.Query session text) h f a = tt

served_all : (contents : Option Paths) (loads : List (ℕ × List ℕ)) (tables : List LoadedTable) (script : List Line) → AllZip (IsLoadedAt contents) loads tables
    → AllByRecursion (λ (line : Line). IsFixedVerb line.verb) script → AllByRecursion (λ (line : Line). IsAmong loads line.number line.verb) script
    → AllByRecursion (IsServedLine tables) script
served_all contents loads tables [] h f a = tt
served_all contents loads tables (line ∷ script) h f a =
    (served_line contents loads tables line.number line.verb h f.0 a.0, served_all contents loads tables script h f.1 a.1)

-- the inputs that files give
pub given-by : (contents : Option Paths) (path : List ℕ) (given : FixedInputs) → AreInputsAt contents path given → All HasFittingRows given.tables → AreGiven given.script given.tables
given-by contents path given i fits =
    let bytes = i.script.bytes in
    let good = good_lines (lines_of bytes) i.script.holds.good in
    let fixed = subst (AllByRecursion (λ (line : Line). IsFixedVerb line.verb)) (sym i.script.holds.commands) (fixed_after [] (lines_of bytes) good) in
    record {
      rise = subst (RisesFrom 0) (sym i.script.holds.commands) (rises_after [] (lines_of bytes) 0 (omega arith));
      lines = All-from_recursion (IsServedLine given.tables) given.script (served_all contents (loads_of given.script) given.tables given.script i.tables fixed (among_all [] given.script));
      fit = fits;
    }
