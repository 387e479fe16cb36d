-- Files whose contents are told have one outcome.
use Rattle.std.proofs.Common.{◌≡◌, ◌<◌, ◌+◌, ◌⊎◌, inl, inr, ℕ, true, false, List, [], ◌∷◌, Option, Some, None, Result, Ok, Err, IfOk, refl, sym, ap, ◌∙◌, subst, arith}
use Rattle.std.specs.List.{AllZip}
use Rattle.cube_val.specs.declared.val.Val.{Val}
use Rattle.fault_lines.proofs.FileFacts.{absent_is_no_file, absent_is_not_long, long_is_no_file, of_one_file}
use Rattle.fixed_cube.specs.Form.{fact_form}
use Rattle.fixed_script.specs.Scripts.{AreGood, IsFirstBadLine, IsFixedScript, IsNoFixedScript, is_bad_at}
use Rattle.outside.specs.Contents.{Paths}
use Rattle.script_reader.specs.Lines.{lines_of}
use Rattle.script_text.specs.declared.verb.Line.{Line}
use Rattle.table_reader.specs.Tables.{IsFaultOf, IsTableOf}
use Rattle.table_reader.specs.declared.fault.TableFault.{TableFault}
use Rattle.table_reader.proofs.OutcomeFacts as tables
use Rattle.run_inputs.specs.Inputs.{AreInputsAt, IsInputFault, IsLoadFault, IsLoadedAt, IsScriptAt, IsScriptFault, IsTableAt, IsTableFault, loads_of}
use Rattle.run_inputs.specs.Laws.{FilesGiveOneOutcome, IsAbsent, TellsOutcomeAt}
use Rattle.run_inputs.specs.Reading.{AnswersAs}
use Rattle.run_inputs.specs.declared.fault.InputFault.{InputFault}
use Rattle.run_inputs.specs.declared.fault.InputFault.TheVariants.{BadScript, BadTable, ReadFault, TooLarge}
use Rattle.run_inputs.specs.declared.fault.InputRefusal.{InputRefusal}
use Rattle.run_inputs.specs.declared.fault.InputRefusal.TheVariants.{Fault, Memory}
use Rattle.run_inputs.specs.declared.inputs.FixedInputs.{FixedInputs}
use Rattle.run_inputs.specs.declared.inputs.LoadedTable.{LoadedTable}

-- ---- scripts

no_bad_line : (lines : List (List ℕ)) (number : ℕ) → AreGood lines → IsFirstBadLine lines number → ⊥
no_bad_line lines number good bad =
    let no : is_bad_at lines bad.place ≡ false = good bad.place bad.there in
    let both : true ≡ false = sym bad.bad ∙ no in
    cc

one_bad_line : (lines : List (List ℕ)) (n m : ℕ) → IsFirstBadLine lines n → IsFirstBadLine lines m → n ≡ m
one_bad_line lines n m a b = by (places a.place b.place)
  where
    places : (i j : ℕ) → (i < j) ⊎ ((j < i) ⊎ (i ≡ j))
    places i j = grind arith

    clash : (k : ℕ) → is_bad_at lines k ≡ true → is_bad_at lines k ≡ false → n ≡ m
    clash k bad good = let both : true ≡ false = sym bad ∙ good in cc

    by : (a.place < b.place) ⊎ ((b.place < a.place) ⊎ (a.place ≡ b.place)) → n ≡ m
    by (inl below) = clash a.place a.bad (b.before a.place below)
    by (inr (inl below)) = clash b.place b.bad (a.before b.place below)
    by (inr (inr same)) = a.counted ∙ (ap (λ (k : ℕ). k + 1) same ∙ sym b.counted)

script_is_none : (bytes : List ℕ) (script : List Line) (number : ℕ) → IsFixedScript bytes script → IsNoFixedScript bytes number → ⊥
script_is_none bytes script number s (inl bad) = no_bad_line (lines_of bytes) number s.good bad
script_is_none bytes script number s (inr (zero_line, none)) =
    let both : true ≡ false = sym s.command ∙ none.none in
    cc

one_bad_script : (bytes : List ℕ) (n m : ℕ) → IsNoFixedScript bytes n → IsNoFixedScript bytes m → n ≡ m
one_bad_script bytes n m (inl a) (inl b) = one_bad_line (lines_of bytes) n m a b
one_bad_script bytes n m (inl a) (inr (z, b)) = absurd (no_bad_line (lines_of bytes) n b.good a)
one_bad_script bytes n m (inr (z, a)) (inl b) = absurd (no_bad_line (lines_of bytes) m a.good b)
one_bad_script bytes n m (inr (z, a)) (inr (y, b)) = z ∙ sym y

module _ (paths : Paths) (path : List ℕ) where
  one_script : (s t : List Line) → IsScriptAt (Some paths) path s → IsScriptAt (Some paths) path t → s ≡ t
  one_script s t a b = of_one_file paths path (λ bytes. IsFixedScript bytes s) (λ bytes. IsFixedScript bytes t) (s ≡ t) (λ bytes f g. f.commands ∙ sym g.commands) a b

  script_or_fault : (s : List Line) (f : InputFault) → IsScriptAt (Some paths) path s → IsScriptFault (Some paths) path f → IsAbsent paths f → ⊥
  script_or_fault s (ReadFault at) a f n = absent_is_no_file paths path (λ bytes. IsFixedScript bytes s) a (ap paths (sym f.0) ∙ n)
  script_or_fault s (TooLarge at) a f n = long_is_no_file paths path (λ bytes. IsFixedScript bytes s) a f.1
  script_or_fault s (BadScript line) a f n =
      of_one_file paths path (λ bytes. IsFixedScript bytes s) (λ bytes. IsNoFixedScript bytes line) ⊥ (λ bytes g h. script_is_none bytes s line g h) a f
  script_or_fault s (BadTable at wrong) a f n = f

  one_script_fault : (f g : InputFault) → IsScriptFault (Some paths) path f → IsAbsent paths f → IsScriptFault (Some paths) path g → IsAbsent paths g → f ≡ g
  one_script_fault (ReadFault at) (ReadFault to) f m g n = ap ReadFault (f.0 ∙ sym g.0)
  one_script_fault (TooLarge at) (TooLarge to) f m g n = ap TooLarge (f.0 ∙ sym g.0)
  one_script_fault (BadScript i) (BadScript j) f m g n =
      ap BadScript (of_one_file paths path (λ bytes. IsNoFixedScript bytes i) (λ bytes. IsNoFixedScript bytes j) (i ≡ j) (λ bytes a b. one_bad_script bytes i j a b) f g)
  one_script_fault (ReadFault at) (TooLarge to) f m g n = absurd (absent_is_not_long paths path g.1 (ap paths (sym f.0) ∙ m))
  one_script_fault (TooLarge at) (ReadFault to) f m g n = absurd (absent_is_not_long paths path f.1 (ap paths (sym g.0) ∙ n))
  one_script_fault (ReadFault at) (BadScript j) f m g n = absurd (absent_is_no_file paths path (λ bytes. IsNoFixedScript bytes j) g (ap paths (sym f.0) ∙ m))
  one_script_fault (BadScript i) (ReadFault to) f m g n = absurd (absent_is_no_file paths path (λ bytes. IsNoFixedScript bytes i) f (ap paths (sym g.0) ∙ n))
  one_script_fault (TooLarge at) (BadScript j) f m g n = absurd (long_is_no_file paths path (λ bytes. IsNoFixedScript bytes j) g f.1)
  one_script_fault (BadScript i) (TooLarge to) f m g n = absurd (long_is_no_file paths path (λ bytes. IsNoFixedScript bytes i) f g.1)
  one_script_fault (BadTable at wrong) g f m h n = absurd f
  one_script_fault (ReadFault at) (BadTable to wrong) f m g n = absurd g
  one_script_fault (TooLarge at) (BadTable to wrong) f m g n = absurd g
  one_script_fault (BadScript i) (BadTable to wrong) f m g n = absurd g

  -- ---- tables

  one_table : (r s : List (List Val)) → IsTableAt (Some paths) path r → IsTableAt (Some paths) path s → r ≡ s
  one_table r s a b =
      of_one_file paths path (λ bytes. IsTableOf fact_form bytes r) (λ bytes. IsTableOf fact_form bytes s) (r ≡ s) (λ bytes f g. tables.one_table fact_form bytes r s f g) a b

  table_or_fault : (r : List (List Val)) (f : InputFault) → IsTableAt (Some paths) path r → IsTableFault (Some paths) path f → IsAbsent paths f → ⊥
  table_or_fault r (ReadFault at) a f n = absent_is_no_file paths path (λ bytes. IsTableOf fact_form bytes r) a (ap paths (sym f.0) ∙ n)
  table_or_fault r (TooLarge at) a f n = long_is_no_file paths path (λ bytes. IsTableOf fact_form bytes r) a f.1
  table_or_fault r (BadScript line) a f n = f
  table_or_fault r (BadTable at wrong) a f n =
      of_one_file paths path (λ bytes. IsTableOf fact_form bytes r) (λ bytes. IsFaultOf fact_form bytes wrong) ⊥ (λ bytes g h. tables.table_has_no_fault fact_form bytes r wrong g h) a f.1

  same_wrong : (bytes : List ℕ) (v w : TableFault) → IsFaultOf fact_form bytes v → IsFaultOf fact_form bytes w → v ≡ w
  same_wrong bytes v w a b =
      let both : wrong_in v ≡ wrong_in w = tables.one_outcome fact_form bytes (Err v) (Err w) a b in
      cc
    where
      wrong_in : TableFault → Result (List (List Val)) TableFault
      wrong_in fault = Err fault

  one_table_fault : (f g : InputFault) → IsTableFault (Some paths) path f → IsAbsent paths f → IsTableFault (Some paths) path g → IsAbsent paths g → f ≡ g
  one_table_fault (ReadFault at) (ReadFault to) f m g n = ap ReadFault (f.0 ∙ sym g.0)
  one_table_fault (TooLarge at) (TooLarge to) f m g n = ap TooLarge (f.0 ∙ sym g.0)
  one_table_fault (BadTable at v) (BadTable to w) f m g n =
      let same : v ≡ w = of_one_file paths path (λ bytes. IsFaultOf fact_form bytes v) (λ bytes. IsFaultOf fact_form bytes w) (v ≡ w) (λ bytes a b. same_wrong bytes v w a b) f.1 g.1 in
      ap (λ (x : List ℕ). BadTable x v) (f.0 ∙ sym g.0) ∙ ap (BadTable to) same
  one_table_fault (ReadFault at) (TooLarge to) f m g n = absurd (absent_is_not_long paths path g.1 (ap paths (sym f.0) ∙ m))
  one_table_fault (TooLarge at) (ReadFault to) f m g n = absurd (absent_is_not_long paths path f.1 (ap paths (sym g.0) ∙ n))
  one_table_fault (ReadFault at) (BadTable to w) f m g n = absurd (absent_is_no_file paths path (λ bytes. IsFaultOf fact_form bytes w) g.1 (ap paths (sym f.0) ∙ m))
  one_table_fault (BadTable at v) (ReadFault to) f m g n = absurd (absent_is_no_file paths path (λ bytes. IsFaultOf fact_form bytes v) f.1 (ap paths (sym g.0) ∙ n))
  one_table_fault (TooLarge at) (BadTable to w) f m g n = absurd (long_is_no_file paths path (λ bytes. IsFaultOf fact_form bytes w) g.1 f.1)
  one_table_fault (BadTable at v) (TooLarge to) f m g n = absurd (long_is_no_file paths path (λ bytes. IsFaultOf fact_form bytes v) f.1 g.1)
  one_table_fault (BadScript line) g f m h n = absurd f
  one_table_fault (ReadFault at) (BadScript line) f m g n = absurd g
  one_table_fault (TooLarge at) (BadScript line) f m g n = absurd g
  one_table_fault (BadTable at v) (BadScript line) f m g n = absurd g

module _ (paths : Paths) where
  same_load : (load : ℕ × List ℕ) (a b : LoadedTable) → IsLoadedAt (Some paths) load a → IsLoadedAt (Some paths) load b → a ≡ b
  same_load load a b f g =
      let made : ℕ × List (List Val) → LoadedTable = λ t. record { line = t.0; rows = t.1 } in
      let same : (a.line, a.rows) ≡ (b.line, b.rows) = λ i. ((f.0 ∙ sym g.0) i, one_table paths load.1 a.rows b.rows f.1 g.1 i) in
      ap made same

  one_list : (loads : List (ℕ × List ℕ)) (xs ys : List LoadedTable) → AllZip (IsLoadedAt (Some paths)) loads xs → AllZip (IsLoadedAt (Some paths)) loads ys → xs ≡ ys
  one_list [] [] [] f g = refl
  one_list [] [] (b ∷ ys) f g = absurd g
  one_list [] (a ∷ xs) ys f g = absurd f
  one_list (load ∷ loads) [] ys f g = absurd f
  one_list (load ∷ loads) (a ∷ xs) [] f g = absurd g
  one_list (load ∷ loads) (a ∷ xs) (b ∷ ys) f g =
      ap (λ (x : LoadedTable). x ∷ xs) (same_load load a b f.0 g.0) ∙ ap (λ (more : List LoadedTable). b ∷ more) (one_list loads xs ys f.1 g.1)

  loads_or_fault : (loads : List (ℕ × List ℕ)) (xs : List LoadedTable) (f : InputFault) → AllZip (IsLoadedAt (Some paths)) loads xs → IsLoadFault (Some paths) loads f → IsAbsent paths f → ⊥
  loads_or_fault [] xs f h g n = g
  loads_or_fault (load ∷ loads) [] f h g n = h
  loads_or_fault (load ∷ loads) (a ∷ xs) f h (inl g) n = table_or_fault paths load.1 a.rows f h.0.1 g n
  loads_or_fault (load ∷ loads) (a ∷ xs) f h (inr g) n = loads_or_fault loads xs f h.1 g.1 n

  one_load_fault : (loads : List (ℕ × List ℕ)) (f g : InputFault) → IsLoadFault (Some paths) loads f → IsAbsent paths f → IsLoadFault (Some paths) loads g → IsAbsent paths g → f ≡ g
  one_load_fault [] f g a m b n = absurd a
  one_load_fault (load ∷ loads) f g (inl a) m (inl b) n = one_table_fault paths load.1 f g a m b n
  one_load_fault (load ∷ loads) f g (inl a) m (inr b) n = absurd (table_or_fault paths load.1 b.0.0 f b.0.1 a m)
  one_load_fault (load ∷ loads) f g (inr a) m (inl b) n = absurd (table_or_fault paths load.1 a.0.0 g a.0.1 b n)
  one_load_fault (load ∷ loads) f g (inr a) m (inr b) n = one_load_fault loads f g a.1 m b.1 n

  same_inputs : (path : List ℕ) (a b : FixedInputs) → AreInputsAt (Some paths) path a → AreInputsAt (Some paths) path b → a ≡ b
  same_inputs path a b f g =
      let scripts = one_script paths path a.script b.script f.script g.script in
      let tables = one_list (loads_of a.script) a.tables b.tables f.tables (subst (λ (s : List Line). AllZip (IsLoadedAt (Some paths)) (loads_of s) b.tables) (sym scripts) g.tables) in
      let made : List Line × List LoadedTable → FixedInputs = λ t. record { script = t.0; tables = t.1 } in
      let same : (a.script, a.tables) ≡ (b.script, b.tables) = λ i. (scripts i, tables i) in
      ap made same

  inputs_or_fault : (path : List ℕ) (a : FixedInputs) (f : InputFault) → AreInputsAt (Some paths) path a → IsInputFault (Some paths) path f → IsAbsent paths f → ⊥
  inputs_or_fault path a f h (inl g) n = script_or_fault paths path a.script f h.script g n
  inputs_or_fault path a f h (inr (script, at, g)) n =
      let same = one_script paths path script a.script at h.script in
      loads_or_fault (loads_of a.script) a.tables f h.tables (subst (λ (s : List Line). IsLoadFault (Some paths) (loads_of s) f) same g) n

  same_fault : (path : List ℕ) (f g : InputFault) → IsInputFault (Some paths) path f → IsAbsent paths f → IsInputFault (Some paths) path g → IsAbsent paths g → f ≡ g
  same_fault path f g (inl a) m (inl b) n = one_script_fault paths path f g a m b n
  same_fault path f g (inl a) m (inr (script, at, b)) n = absurd (script_or_fault paths path script f at a m)
  same_fault path f g (inr (script, at, a)) m (inl b) n = absurd (script_or_fault paths path script g at b n)
  same_fault path f g (inr (s, a, h)) m (inr (t, b, k)) n =
      one_load_fault (loads_of t) f g (subst (λ (x : List Line). IsLoadFault (Some paths) (loads_of x) f) (one_script paths path s t a b) h) m k n

pub one_outcome : FilesGiveOneOutcome
one_outcome None path a b f g = absurd f
one_outcome (Some paths) path (Ok a) (Ok b) f g = ap Ok (same_inputs paths path a b f g)
one_outcome (Some paths) path (Ok a) (Err b) f g = absurd (inputs_or_fault paths path a b f g.0 g.1)
one_outcome (Some paths) path (Err a) (Ok b) f g = absurd (inputs_or_fault paths path b a g f.0 f.1)
one_outcome (Some paths) path (Err a) (Err b) f g = ap Err (same_fault paths path a b f.0 f.1 g.0 g.1)

-- what files give is answered
pub answers_as : (contents : Option Paths) (path : List ℕ) (outcome : Result FixedInputs InputFault) (answer : Result FixedInputs InputRefusal) → TellsOutcomeAt contents path outcome
    → IfOk answer (AreInputsAt contents path) → ((f : InputFault) → answer ≡ Err (Fault f) → IsInputFault contents path f) → AnswersAs outcome answer
answers_as None path outcome answer t ok bad = absurd t
answers_as (Some paths) path outcome (Ok inputs) t ok bad = one_outcome (Some paths) path outcome (Ok inputs) t ok
answers_as (Some paths) path outcome (Err Memory) t ok bad = tt
answers_as (Some paths) path outcome (Err (Fault (ReadFault at))) t ok bad = tt
answers_as (Some paths) path outcome (Err (Fault (TooLarge at))) t ok bad = one_outcome (Some paths) path outcome (Err (TooLarge at)) t (bad (TooLarge at) refl, tt)
answers_as (Some paths) path outcome (Err (Fault (BadScript line))) t ok bad = one_outcome (Some paths) path outcome (Err (BadScript line)) t (bad (BadScript line) refl, tt)
answers_as (Some paths) path outcome (Err (Fault (BadTable at wrong))) t ok bad = one_outcome (Some paths) path outcome (Err (BadTable at wrong)) t (bad (BadTable at wrong) refl, tt)
