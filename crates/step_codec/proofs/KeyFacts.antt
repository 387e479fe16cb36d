-- Repeated keys: the test and the definition.
use Rattle.std.proofs.Common.{◌≡◌, ◌≢◌, ◌<◌, ◌+◌, ◌∙◌, ℕ, suc, Bool, true, false, not, ◌&&◌, List, [], ◌∷◌, length, take, Option, Some, None, refl, sym, ap, subst, arith}
use Rattle.std.specs.Prelude.{All, Any, IfNone, IfSome, get_or, is_some, nat_lt, slice_index_or}
use Rattle.std.specs.List.{AllByRecursion, list_any, range_with_len}
use Rattle.std.specs.Cmp.{tied_itself}
use Rattle.std.specs.Ordering.{is_eq}
use Rattle.std.specs.declared.cmp.Ordering.{Ordering}
use Rattle.std.specs.declared.cmp.Ordering.TheVariants.{Less, Equal, Greater}
use Rattle.std.proofs.lemmas.List.Folds.{Any-from_list_any, list_any-from_Any, list_any_at}
use Rattle.std.proofs.lemmas.List.FromFn.{get_or-range_with_len, length-range_with_len}
use Rattle.std.proofs.lemmas.Bool.{lt-ltb, ltb-true}
use Rattle.std.proofs.lemmas.List.Elements.{All-from_recursion}
use Rattle.byte_frame.specs.Spelling.{EachFits}
use Rattle.cube_val.specs.declared.val.Val.{Val}
use Rattle.cube_val.specs.Order.{row_cmp}
use Rattle.cube_val.specs.OrderLaws.{row_cmp_total}
use Rattle.cube_val.proofs.OrderFacts.{row_cmp_exact}
use Rattle.step_fields.specs.declared.column.Column.{Column}
use Rattle.step_fields.specs.Reading.{row_at, rows_at, val_at}
use Rattle.table_reader.specs.Keys.{AreWithin, HasDistinctKeys, Repeats, has_null, key_of}
use Rattle.cube_fields.proofs.Given.{gets_any, gets_each, gets_list}
use Rattle.step_codec.specs.Reading.{has_repeat, is_repeat}
use Rattle.step_codec.specs.Tables.{IsTableShape}

-- ---- rows that are read are as long as their columns

each_length : {C A : Type 0} (F : C → A → Type 0) (cs : List C) (xs : List A) → EachFits F cs xs → length xs ≡ length cs
each_length F [] [] h = refl
each_length F [] (x ∷ xs) h = absurd h
each_length F (c ∷ cs) [] h = absurd h
each_length F (c ∷ cs) (x ∷ xs) h = ap suc (each_length F cs xs h.1)

within : (key : List ℕ) (n m : ℕ) → n ≡ m → AllByRecursion (λ place. place < n) key → AllByRecursion (λ place. place < m) key
within key n m e h = subst (λ (k : ℕ). AllByRecursion (λ place. place < k) key) e h

all_within : (columns : List Column) (key : List ℕ) (rows : List (List Val)) → IsTableShape columns key → AllByRecursion (λ row. EachFits (λ (c : Column) (v : Val). Unit {0}) columns row) rows → AllByRecursion (AreWithin key) rows
all_within columns key [] shape h = tt
all_within columns key (row ∷ rows) shape h =
    (All-from_recursion (λ place. place < length row) key (within key (length columns) (length row) (sym (each_length (λ (c : Column) (v : Val). Unit {0}) columns row h.0)) shape), all_within columns key rows shape h.1)

pub rows_within : (columns : List Column) (key : List ℕ) (limit : ℕ) (bytes : List ℕ) (rows : List (List Val)) (rest : List ℕ) → IsTableShape columns key → rows_at columns limit bytes ≡ Some (rows, rest) → All (AreWithin key) rows
rows_within columns key limit bytes rows rest shape e =
    let h = gets_list (λ (row : List Val). EachFits (λ (c : Column) (v : Val). Unit {0}) columns row) limit (row_at columns) (gets_each (λ (c : Column) (v : Val). Unit {0}) val_at (λ c. gets_any (val_at c)) columns) bytes (rows, rest) e in
    All-from_recursion (AreWithin key) rows (all_within columns key rows shape h.1)

-- ---- repeated keys

both : (a b : Bool) → (a && b) ≡ true → (a ≡ true) × (b ≡ true)
both true b h = (refl, h)
both false b h = absurd cc

not_true : (b : Bool) → not b ≡ true → b ≡ false
not_true true e = absurd cc
not_true false e = refl

is_equal : (o : Ordering) → is_eq o ≡ true → o ≡ Equal
is_equal Less e = absurd cc
is_equal Equal e = refl
is_equal Greater e = absurd cc

same_key : (a b : List Val) → is_eq (row_cmp a b) ≡ true → a ≡ b
same_key a b e = row_cmp_exact a b (is_equal (row_cmp a b) e)

equal_keys : (a b : List Val) → a ≡ b → is_eq (row_cmp a b) ≡ true
equal_keys a b e = subst (λ (x : List Val). is_eq (row_cmp a x) ≡ true) e (ap is_eq (tied_itself row_cmp_total a))

any_map : {X : Type 0} (P Q : X → Type 0) (xs : List X) → ((x : X) → P x → Q x) → Any P xs → Any Q xs
any_map P Q xs f h = (h.0, h.1, h.2, h.3, f h.1 h.4)

some_place : (places : List ℕ) → places ≢ [] → 0 < length places
some_place [] h = absurd (h refl)
some_place (p ∷ places) h = omega arith

place_some : (places : List ℕ) → 0 < length places → places ≢ []
place_some [] h e = absurd (omega (arith, h))
place_some (p ∷ places) h e = cc

-- the key of the row at a place
abbrev key_at : List ℕ → List (List Val) → ℕ → List Val
key_at places rows i = key_of places (slice_index_or rows i [])

repeat_is : (places : List ℕ) (rows : List (List Val)) (i : ℕ) → 0 < length places → is_repeat places rows i ≡ true → Repeats places (take i rows) (slice_index_or rows i [])
repeat_is places rows i some e =
    let t = both (not (has_null (key_at places rows i))) (list_any (λ earlier. is_eq (row_cmp (key_of places earlier) (key_at places rows i))) (take i rows)) e in
    (place_some places some, not_true (has_null (key_at places rows i)) t.0, any_map (λ earlier. is_eq (row_cmp (key_of places earlier) (key_at places rows i)) ≡ true) (λ earlier. key_of places earlier ≡ key_at places rows i) (take i rows) (λ earlier h. same_key _ _ h) (Any-from_list_any _ (take i rows) t.1))

is_again : (places : List ℕ) (rows : List (List Val)) (i : ℕ) → Repeats places (take i rows) (slice_index_or rows i []) → is_repeat places rows i ≡ true
is_again places rows i h =
    let some = list_any-from_Any (λ earlier. is_eq (row_cmp (key_of places earlier) (key_at places rows i))) (take i rows) (any_map (λ earlier. key_of places earlier ≡ key_at places rows i) (λ earlier. is_eq (row_cmp (key_of places earlier) (key_at places rows i)) ≡ true) (take i rows) (λ earlier e. equal_keys _ _ e) h.2) in
    rw (h.1, some) refl

no_more : (i : ℕ) → 0 + i ≡ i
no_more i = omega arith

pub repeats : (places : List ℕ) (rows : List (List Val)) (i : ℕ) → i < length rows → Repeats places (take i rows) (slice_index_or rows i []) → has_repeat places rows ≡ true
repeats places rows i lt h =
    let inside : i < length (range_with_len 0 (length rows)) = omega (arith, lt, length-range_with_len 0 (length rows)) in
    let here : is_repeat places rows (get_or (range_with_len 0 (length rows)) i 0) ≡ true = ap (is_repeat places rows) (get_or-range_with_len 0 (length rows) i 0 lt ∙ no_more i) ∙ is_again places rows i h in
    rw (lt-ltb 0 (length places) (some_place places h.0), list_any_at (is_repeat places rows) (range_with_len 0 (length rows)) i 0 inside here) refl

pub distinct : (places : List ℕ) (rows : List (List Val)) → has_repeat places rows ≡ false → HasDistinctKeys places rows
distinct places rows e i lt h = let again = repeats places rows i lt h in absurd cc

pub no_repeat : (places : List ℕ) (rows : List (List Val)) → HasDistinctKeys places rows → has_repeat places rows ≡ false
no_repeat places rows h = by (has_repeat places rows) refl where
  by : (b : Bool) → has_repeat places rows ≡ b → has_repeat places rows ≡ false
  by false e = e
  by true e =
      let t = both (nat_lt 0 (length places)) (list_any (is_repeat places rows) (range_with_len 0 (length rows))) e in
      let a = Any-from_list_any (is_repeat places rows) (range_with_len 0 (length rows)) t.1 in
      let lt : a.0 < length rows = omega (arith, a.2, length-range_with_len 0 (length rows)) in
      let is : a.1 ≡ a.0 = sym a.3 ∙ get_or-range_with_len 0 (length rows) a.0 a.1 lt ∙ no_more a.0 in
      absurd (h a.0 lt (repeat_is places rows a.0 (ltb-true 0 (length places) t.0) (subst (λ (k : ℕ). is_repeat places rows k ≡ true) is a.4)))

pub first_is : (places : List ℕ) (rows : List (List Val)) (o : Option ℕ) → IfNone o (HasDistinctKeys places rows)
    → IfSome o (λ i. (i < length rows) × HasDistinctKeys places (take i rows) × Repeats places (take i rows) (slice_index_or rows i [])) → is_some o ≡ has_repeat places rows
first_is places rows None none some = sym (no_repeat places rows none)
first_is places rows (Some i) none some = sym (repeats places rows i some.0 some.2)
