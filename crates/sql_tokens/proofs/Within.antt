-- What stands in front of a text lies within it.
use Rattle.std.proofs.Common.{◌≡◌, ℕ, suc, ◌+◌, ◌*◌, ◌≤◌, ◌<◌, Bool, true, false, ◌&&◌, List, [], ◌∷◌, length, take, drop, Option, Some, None, refl, ap, subst, ◌∙◌, arith, length-drop, cond, nat_lt, nat_le, codes}
use Rattle.std.specs.Prelude.{nat_eq}
use Rattle.std.specs.Char.{is_ascii_digit}
use Rattle.std.specs.Cmp.Lexicographic.{pointwise}
use Rattle.std.specs.List.{take_while, position}
use Rattle.std.specs.Str.Parse.{digits_value}
use Rattle.std.proofs.lemmas.List.{length-append}
use Rattle.std.proofs.lemmas.List.Sums.{prefix_len-le-length}
use Rattle.std.proofs.lemmas.List.Folds.{length-prefix_len}
use Rattle.std.proofs.lemmas.List.Quantifiers.{position-Some}
use Rattle.cube_val.specs.Numbers.{four_places}
use Rattle.sql_tokens.specs.declared.kind.Kind.{Kind}
use Rattle.sql_tokens.specs.declared.kind.Kind.TheVariants as k
use Rattle.query_faults.specs.declared.sql.SqlKind.TheVariants.{BadNumber, BadToken}
use Rattle.sql_tokens.specs.declared.payload.Payload.{Payload}
use Rattle.sql_tokens.specs.declared.payload.Payload.TheVariants.{Rows, Units, Name, Text}
use Rattle.sql_tokens.specs.declared.lexeme.Lexeme.{Lexeme}
use Rattle.sql_tokens.specs.declared.lexeme.Lexeme.TheVariants as lexeme
use Rattle.sql_tokens.specs.Words.{is_word_byte, keyword, upper, word_at, word_lexeme, word_of}
use Rattle.sql_tokens.specs.Numbers.{decimal_lexeme, number_at, number_of, places_behind, whole_lexeme}
use Rattle.sql_tokens.specs.Quotes.{doubled, is_double_quote, is_name, is_text, name_at, name_lexeme, text_at, text_behind, text_lexeme}
use Rattle.sql_tokens.specs.Symbols.{pair_lexeme, pair_of, single_lexeme, single_of, symbol_at}
use Rattle.sql_tokens.specs.Lexemes.{next_at}
use Rattle.sql_tokens.proofs.QuoteFacts.{read_is_doubled}

-- a token takes a byte, and no more than these
abbrev pub IsWithin : Lexeme → ℕ → Type 0
IsWithin lexeme.End n = Unit {0}
IsWithin (lexeme.Bad kind) n = Unit {0}
IsWithin (lexeme.Token kind payload len) n = (0 < len) × (len ≤ n)

choose : (b : Bool) (x y : Lexeme) (n : ℕ) → (b ≡ true → IsWithin x n) → (b ≡ false → IsWithin y n) → IsWithin (cond b x y) n
choose true x y n h k = h refl
choose false x y n h k = k refl

-- ---- runs

run_short : (p : ℕ → Bool) (bs : List ℕ) → length (take_while p bs) ≤ length bs
run_short p bs = omega (arith, length-prefix_len p bs, prefix_len-le-length p bs)

-- a run whose first byte passes has a byte
run_has : (p : ℕ → Bool) (b : ℕ) (bs : List ℕ) → p b ≡ true → 0 < length (take_while p (b ∷ bs))
run_has p b bs e = rw (length-prefix_len p (b ∷ bs), e) (omega arith)

-- ---- words

word_within : (word : Option Kind) (w : List ℕ) (len n : ℕ) → 0 < len → len ≤ n → IsWithin (word_lexeme word w len) n
word_within None w len n some few = (some, few)
word_within (Some word) w len n some few = (some, few)

word_of_within : (word : List ℕ) (n : ℕ) → 0 < length word → length word ≤ n → IsWithin (word_of word) n
word_of_within word n some few = choose (nat_le (length word) 64) (word_lexeme (keyword (upper word)) (upper word) (length word)) (lexeme.Bad BadToken) n (λ e. word_within (keyword (upper word)) (upper word) (length word) n some few) (λ e. tt)

-- ---- numbers

abbrev units_or : List ℕ → Lexeme
units_or digits = cond (nat_le (length digits) 30) (lexeme.Token k.Number (Units (digits_value 10 digits * 10_000)) (length digits)) (lexeme.Bad BadNumber)

abbrev rows_or : List ℕ → Lexeme
rows_or digits = cond (nat_le (length digits) 9) (lexeme.Token k.Whole (Rows (digits_value 10 digits)) (length digits)) (units_or digits)

units_within : (digits : List ℕ) (n : ℕ) → 0 < length digits → length digits ≤ n → IsWithin (units_or digits) n
units_within digits n some few = choose (nat_le (length digits) 30) (lexeme.Token k.Number (Units (digits_value 10 digits * 10_000)) (length digits)) (lexeme.Bad BadNumber) n (λ e. (some, few)) (λ e. tt)

rows_within : (digits : List ℕ) (n : ℕ) → 0 < length digits → length digits ≤ n → IsWithin (rows_or digits) n
rows_within digits n some few = choose (nat_le (length digits) 9) (lexeme.Token k.Whole (Rows (digits_value 10 digits)) (length digits)) (units_or digits) n (λ e. (some, few)) (λ e. units_within digits n some few)

whole_within : (digits : List ℕ) (n : ℕ) → 0 < length digits → length digits ≤ n → IsWithin (whole_lexeme digits) n
whole_within digits n some few = choose (pointwise nat_eq digits (codes "1")) (lexeme.Token k.One (Rows 1) 1) (rows_or digits) n (λ e. (omega arith, omega arith)) (λ e. rows_within digits n some few)

decimal_within : (digits places : List ℕ) (n : ℕ) → length digits + 1 + length places ≤ n → IsWithin (decimal_lexeme digits places) n
decimal_within digits places n few = choose (nat_le (length digits) 30 && (nat_lt 0 (length places) && nat_le (length places) 4)) (lexeme.Token k.Number (Units (digits_value 10 digits * 10_000 + digits_value 10 (four_places places))) (length digits + 1 + length places)) (lexeme.Bad BadNumber) n (λ e. (omega arith, few)) (λ e. tt)

-- a point and the digits behind it
places_short : (b : ℕ) (bs places : List ℕ) (t : Bool) → cond t (Some (take_while is_ascii_digit bs)) None ≡ Some places → 1 + length places ≤ length (b ∷ bs)
places_short b bs places true e = let same : take_while is_ascii_digit bs ≡ places = cc in omega (arith, ap length same, run_short is_ascii_digit bs)
places_short b bs places false e = absurd cc

places_within : (text places : List ℕ) → places_behind text ≡ Some places → 1 + length places ≤ length text
places_within [] places e = absurd cc
places_within (b ∷ bs) places e = places_short b bs places (nat_eq b 46) e

number_within : (digits : List ℕ) (places : Option (List ℕ)) (rest : List ℕ) (n : ℕ) → places_behind rest ≡ places → 0 < length digits → length digits + length rest ≤ n → IsWithin (number_of digits places) n
number_within digits None rest n e some few = whole_within digits n some (omega arith)
number_within digits (Some places) rest n e some few = decimal_within digits places n (omega (arith, places_within rest places e))

number_at_within : (b : ℕ) (bs : List ℕ) → is_ascii_digit b ≡ true → IsWithin (number_at (b ∷ bs)) (length (b ∷ bs))
unfolding number_at
number_at_within b bs e =
    let digits : List ℕ = take_while is_ascii_digit (b ∷ bs) in
    let rest : List ℕ = drop (length digits) (b ∷ bs) in
    number_within digits (places_behind rest) rest (length (b ∷ bs)) refl (run_has is_ascii_digit b bs e) (omega (arith, run_short is_ascii_digit (b ∷ bs), length-drop (length digits) (b ∷ bs)))

-- ---- names and texts in quotes

name_within : (n : Option ℕ) (rest : List ℕ) → position is_double_quote rest ≡ n → IsWithin (name_lexeme n rest) (suc (length rest))
name_within None rest e = tt
name_within (Some n) rest e =
    let before = (position-Some is_double_quote rest n 0 e).0 in
    choose (is_name (take n rest)) (lexeme.Token k.Name (Name (upper (take n rest))) (n + 2)) (lexeme.Bad BadToken) (suc (length rest)) (λ e. (omega arith, omega arith)) (λ e. tt)

text_within : (text : Option (List ℕ)) (rest : List ℕ) → text_behind false rest ≡ text → IsWithin (text_lexeme text) (suc (length rest))
text_within None rest e = tt
text_within (Some text) rest e =
    let w = read_is_doubled rest text e in
    let long : length rest ≡ length (doubled text) + length (39 ∷ w.0) = ap length w.1 ∙ length-append (doubled text) (39 ∷ w.0) in
    choose (is_text text) (lexeme.Token k.Text (Text text) (length (doubled text) + 2)) (lexeme.Bad BadToken) (suc (length rest)) (λ e. (omega arith, omega arith)) (λ e. tt)

-- ---- symbols

single_within : (kind : Option Kind) (n : ℕ) → 0 < n → IsWithin (single_lexeme kind) n
single_within None n few = tt
single_within (Some kind) n few = (omega arith, omega arith)

pair_within : (kind : Option Kind) (a n : ℕ) → 1 < n → IsWithin (pair_lexeme kind a) n
pair_within None a n few = single_within (single_of a) n (omega arith)
pair_within (Some kind) a n few = (omega arith, omega arith)

symbol_within : (text : List ℕ) → IsWithin (symbol_at text) (length text)
unfolding symbol_at
symbol_within [] = tt
symbol_within (a ∷ []) = single_within (single_of a) 1 (omega arith)
symbol_within (a ∷ (b ∷ bs)) = pair_within (pair_of a b) a (length (a ∷ (b ∷ bs))) (omega arith)

-- ---- all of them

word_at_within : (b : ℕ) (bs : List ℕ) → is_word_byte b ≡ true → IsWithin (word_at (b ∷ bs)) (length (b ∷ bs))
unfolding word_at
word_at_within b bs e = word_of_within (take_while is_word_byte (b ∷ bs)) (length (b ∷ bs)) (run_has is_word_byte b bs e) (run_short is_word_byte (b ∷ bs))

name_at_within : (rest : List ℕ) → IsWithin (name_at rest) (suc (length rest))
unfolding name_at
name_at_within rest = name_within (position is_double_quote rest) rest refl

text_at_within : (rest : List ℕ) → IsWithin (text_at rest) (suc (length rest))
unfolding text_at
text_at_within rest = text_within (text_behind false rest) rest refl

abbrev text_or : ℕ → List ℕ → Lexeme
text_or b bs = cond (nat_eq b 39) (text_at bs) (symbol_at (b ∷ bs))

abbrev name_or : ℕ → List ℕ → Lexeme
name_or b bs = cond (nat_eq b 34) (name_at bs) (text_or b bs)

abbrev word_or : ℕ → List ℕ → Lexeme
word_or b bs = cond (is_word_byte b) (word_at (b ∷ bs)) (name_or b bs)

pub next_within : (text : List ℕ) → IsWithin (next_at text) (length text)
unfolding next_at
next_within [] = tt
next_within (b ∷ bs) =
    choose (is_ascii_digit b) (number_at (b ∷ bs)) (word_or b bs) (length (b ∷ bs)) (number_at_within b bs) (λ e.
    choose (is_word_byte b) (word_at (b ∷ bs)) (name_or b bs) (length (b ∷ bs)) (word_at_within b bs) (λ e.
    choose (nat_eq b 34) (name_at bs) (text_or b bs) (length (b ∷ bs)) (λ e. name_at_within bs) (λ e.
    choose (nat_eq b 39) (text_at bs) (symbol_at (b ∷ bs)) (length (b ∷ bs)) (λ e. text_at_within bs) (λ e. symbol_within (b ∷ bs)))))

-- a token in front takes a byte, and no more than there are
pub token_within : (text : List ℕ) (kind : Kind) (payload : Payload) (len : ℕ) → next_at text ≡ lexeme.Token kind payload len → (0 < len) × (len ≤ length text)
token_within text kind payload len e = subst (λ (w : Lexeme). IsWithin w (length text)) e (next_within text)
