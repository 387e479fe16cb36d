-- The faults of files, from what the readers answer.
use Rattle.std.proofs.Common.{◌≡◌, ◌≤◌, ◌<◌, ◌+◌, ◌++◌, ◌∷◌, [], ◌⊎◌, inl, inr, ℕ, List, Option, Result, Err, length, take, drop, get_or, refl, sym, ap, ◌∙◌, subst, arith, append-nil}
use Rattle.std.specs.List.{AllZip}
use Rattle.std.proofs.lemmas.List.{take_more, take-append-drop}
use Rattle.std.proofs.lemmas.List.Concat.{flat_map-append}
use Rattle.script_text.specs.declared.verb.Line.{Line}
use Rattle.script_text.specs.declared.verb.Verb.{Verb}
use Rattle.fault_lines.specs.Files.{most_bytes}
use Rattle.fixed_script.specs.Scripts.{IsNoFixedScript}
use Rattle.fixed_cube.specs.Form.{fact_form}
use Rattle.outside.specs.Contents.{IsLongerAt, IsNotLongerAt, Paths, StandsAt}
use Rattle.outside.specs.Counts.{Rose}
use Rattle.outside.specs.declared.files.FileFault.{FileFault}
use Rattle.outside.specs.declared.files.FileFault.TheVariants as file
use Rattle.table_reader.specs.Tables.{IsFaultOf}
use Rattle.table_reader.specs.declared.fault.TableFault.{TableFault}
use Rattle.run_inputs.specs.Inputs.{IsLoadFault, IsLoadedAt, IsScriptFault, IsTableAt, IsTableFault, load_of, loads_of}
use Rattle.run_inputs.specs.Reading.{IsUnread}
use Rattle.run_inputs.specs.declared.fault.InputFault.{InputFault}
use Rattle.run_inputs.specs.declared.fault.InputFault.TheVariants.{BadScript, BadTable, ReadFault, TooLarge}
use Rattle.run_inputs.specs.declared.fault.InputRefusal.{InputRefusal}
use Rattle.run_inputs.specs.declared.fault.InputRefusal.TheVariants.{Fault, Memory}
use Rattle.run_inputs.specs.declared.inputs.LoadedTable.{LoadedTable}

-- a refusal, in the place of such an answer
abbrev pub refusing : (T : Type 0) → InputRefusal → Result T InputRefusal
refusing T refusal = Err refusal

pub same_refusal : (T U : Type 0) (a b : InputRefusal) → refusing T a ≡ refusing T b → refusing U a ≡ refusing U b
same_refusal T U a b e =
    let same : a ≡ b = cc in
    ap (refusing U) same

pub refusal_is : (T : Type 0) (a b : InputRefusal) → refusing T a ≡ refusing T b → a ≡ b
refusal_is T a b e = cc

-- a file that wasn't read has a fault of a script and of a table
pub unread_fault : (contents : Option Paths) (path : List ℕ) (fault : FileFault) (f : InputFault) → IsUnread path fault (Fault f)
    → (fault ≡ file.TooLong → IsLongerAt contents path most_bytes) → (fault ≡ file.Failed → IsNotLongerAt contents path most_bytes)
    → IsScriptFault contents path f × IsTableFault contents path f
unread_fault contents path fault (ReadFault at) u l n = ((u.0, n u.1), (u.0, n u.1))
unread_fault contents path fault (TooLarge at) u l n = ((u.0, l u.1), (u.0, l u.1))
unread_fault contents path fault (BadScript line) u l n = absurd u
unread_fault contents path fault (BadTable at wrong) u l n = absurd u

-- a line that is no script's
pub bad_script : (contents : Option Paths) (path bytes : List ℕ) (line : ℕ) (f : InputFault) → f ≡ BadScript line → StandsAt contents path bytes → length bytes ≤ most_bytes
    → IsNoFixedScript bytes line → IsScriptFault contents path f
bad_script contents path bytes line f e s l h =
    subst (IsScriptFault contents path) (sym e) (record { bytes = bytes; stands = s; short = l; holds = h })

pub bad_table : (contents : Option Paths) (path bytes : List ℕ) (fault : TableFault) (f : InputFault) → f ≡ BadTable path fault → StandsAt contents path bytes → length bytes ≤ most_bytes
    → IsFaultOf fact_form bytes fault → IsTableFault contents path f
bad_table contents path bytes fault f e s l h =
    subst (IsTableFault contents path) (sym e) (refl, record { bytes = bytes; stands = s; short = l; holds = h })

-- a count that rose later rose in all
pub rose_later : (old mid new : ℕ) → old ≤ mid → Rose mid new → Rose old new
rose_later old mid new h r = omega (arith, h, r)

pub rose_earlier : (old mid new : ℕ) → mid ≤ new → Rose old mid → Rose old new
rose_earlier old mid new h r = omega (arith, h, r)

-- ---- loads

-- lists that agree place by place, one after another
pub zip_append : {A B : Type 0} (R : A → B → Type 0) (xs more : List A) (ys : List B) (y : List B) → AllZip R xs ys → AllZip R more y → AllZip R (xs ++ more) (ys ++ y)
zip_append R [] more [] y h m = m
zip_append R [] more (b ∷ ys) y h m = absurd h
zip_append R (x ∷ xs) more [] y h m = absurd h
zip_append R (x ∷ xs) more (b ∷ ys) y h m = (h.0, zip_append R xs more ys y h.1 m)

-- the fault of a load after others that are read, and before others
pub fault_after_loads : (contents : Option Paths) (loads : List (ℕ × List ℕ)) (tables : List LoadedTable) (more : List (ℕ × List ℕ)) (f : InputFault)
    → AllZip (IsLoadedAt contents) loads tables → IsLoadFault contents more f → IsLoadFault contents (loads ++ more) f
fault_after_loads contents [] tables more f h m = m
fault_after_loads contents (load ∷ loads) [] more f h m = absurd h
fault_after_loads contents (load ∷ loads) (table ∷ tables) more f h m = inr ((table.rows, h.0.1), fault_after_loads contents loads tables more f h.1 m)

pub fault_before_loads : (contents : Option Paths) (loads more : List (ℕ × List ℕ)) (f : InputFault) → IsLoadFault contents loads f → IsLoadFault contents (loads ++ more) f
fault_before_loads contents [] more f h = absurd h
fault_before_loads contents (load ∷ loads) more f (inl h) = inl h
fault_before_loads contents (load ∷ loads) more f (inr h) = inr (h.0, fault_before_loads contents loads more f h.1)

-- the fault in a refusal
pub fault_is : (T : Type 0) (a f : InputFault) → refusing T (Fault a) ≡ refusing T (Fault f) → f ≡ a
fault_is T a f e = cc

pub bad_table_is : (T : Type 0) (contents : Option Paths) (path bytes : List ℕ) (fault : TableFault) (f : InputFault) (refusal : InputRefusal)
    → (refusal ≡ Memory) ⊎ (refusal ≡ Fault (BadTable path fault)) → refusing T refusal ≡ refusing T (Fault f) → StandsAt contents path bytes → length bytes ≤ most_bytes
    → IsFaultOf fact_form bytes fault → IsTableFault contents path f
bad_table_is T contents path bytes fault f refusal (inl m) e s l h = absurd (no_memory m e)
  where
    no_memory : refusal ≡ Memory → refusing T refusal ≡ refusing T (Fault f) → ⊥
    no_memory m e = cc
bad_table_is T contents path bytes fault f refusal (inr m) e s l h =
    let same : f ≡ BadTable path fault = cc in
    bad_table contents path bytes fault f same s l h

-- a line's file was read
pub load_read : (contents : Option Paths) (path : List ℕ) (number : ℕ) (verb : Verb) (loads : List (ℕ × List ℕ)) (old new : List LoadedTable) (table : LoadedTable)
    → load_of number verb ≡ (number, path) ∷ [] → new ≡ old ++ table ∷ [] → table.line ≡ number → IsTableAt contents path table.rows → AllZip (IsLoadedAt contents) loads old
    → AllZip (IsLoadedAt contents) (loads ++ load_of number verb) new
load_read contents path number verb loads old new table l p n t h =
    rw (l, p) (zip_append (IsLoadedAt contents) loads ((number, path) ∷ []) old (table ∷ []) h ((n, t), tt))

-- the loads of the lines up to one more, and of all lines
pub loads_more : (script : List Line) (i : ℕ) (line : Line) → i < length script → line ≡ get_or script i line
    → loads_of (take (i + 1) script) ≡ loads_of (take i script) ++ load_of line.number line.verb
loads_more script i line within e =
    ap loads_of (take_more script i line within)
    ∙ (flat_map-append (λ (l : Line). load_of l.number l.verb) (take i script) (get_or script i line ∷ [])
    ∙ (ap (λ (l : Line). loads_of (take i script) ++ (load_of l.number l.verb ++ [])) (sym e) ∙ ap (λ (x : List (ℕ × List ℕ)). loads_of (take i script) ++ x) (append-nil (load_of line.number line.verb))))

pub loads_split : (script : List Line) (i : ℕ) (line : Line) → i < length script → line ≡ get_or script i line
    → (loads_of (take i script) ++ load_of line.number line.verb) ++ loads_of (drop (i + 1) script) ≡ loads_of script
loads_split script i line within e =
    ap (λ (x : List (ℕ × List ℕ)). x ++ loads_of (drop (i + 1) script)) (sym (loads_more script i line within e))
    ∙ (sym (flat_map-append (λ (l : Line). load_of l.number l.verb) (take (i + 1) script) (drop (i + 1) script)) ∙ ap loads_of (take-append-drop (i + 1) script))

-- the fault of a line's file is that of all loads
pub fault_of_loads : (contents : Option Paths) (script : List Line) (i : ℕ) (line : Line) (tables : List LoadedTable) (f : InputFault) → i < length script → line ≡ get_or script i line
    → AllZip (IsLoadedAt contents) (loads_of (take i script)) tables → IsLoadFault contents (load_of line.number line.verb) f → IsLoadFault contents (loads_of script) f
fault_of_loads contents script i line tables f within e h m =
    subst (λ (x : List (ℕ × List ℕ)). IsLoadFault contents x f) (loads_split script i line within e)
    (fault_before_loads contents (loads_of (take i script) ++ load_of line.number line.verb) (loads_of (drop (i + 1) script)) f
    (fault_after_loads contents (loads_of (take i script)) tables (load_of line.number line.verb) f h m))
