-- Numbers in words, and words that say no command.
use Rattle.std.proofs.Common.{◌≡◌, ◌≤◌, ◌<◌, ◌+◌, ◌-◌, ◌++◌, ap, sym, ◌∙◌, take, get_or, ℕ, List, [], ◌∷◌, Some, None, Ok, Err, IfNone, Result, inl, inr, arith, length}
use Rattle.std.specs.Prelude.{codes}
use Rattle.std.proofs.Math.Seq.{take-length}
use Rattle.std.proofs.lemmas.List.{take_more}
use Rattle.std.specs.Result.{result_ok}
use Rattle.std.specs.Str.Parse.{AllDigits, ParsesUnsigned, digits_value}
use Rattle.std.proofs.lemmas.Str.Parse.{IsNumeralModel, digits_value_short, numerals_by_value, parse_gives, tells_digits}
use Rattle.command_line.specs.declared.form.Form.TheVariants as form
use Rattle.command_line.specs.Forms.{HasForm}
use Rattle.command_line.specs.Words.{Command, IsPath, IsWorkers, Say, Writes, run, demo, fold, cuboids, step}

pub digits : IsNumeralModel (AllDigits 10) (digits_value 10)
digits = numerals_by_value (AllDigits 10) tells_digits

-- a word of few digits is read as its number
pub written_number : {E : Type 0} (most n : ℕ) (word : List ℕ) (r : Result ℕ E) → most ≤ 9 → ParsesUnsigned 32 10 word r → Writes most word n → r ≡ Ok (digits_value 10 word)
written_number most n word r few h w =
    parse_gives digits 32 word r h w.1.1 w.1.0
    (let size : length word ≤ 9 = omega (arith, w.0) in omega (arith, digits_value_short digits word 9 w.1.1 size))

-- what isn't read is no number
pub no_number : {E : Type 0} (most : ℕ) (word : List ℕ) (r : Result ℕ E) → most ≤ 9 → ParsesUnsigned 32 10 word r → IfNone (result_ok r) ((n : ℕ) → Writes most word n → ⊥)
no_number most word (Ok x) few h = tt
no_number most word (Err e) few h = λ n w. let same : Err e ≡ Ok (digits_value 10 word) = written_number most n word (Err e) few h w in cc

-- a list is its front and its last item
front_and_last : (xs : List ℕ) → 0 < length xs → xs ≡ take (length xs - 1) xs ++ get_or xs (length xs - 1) 0 ∷ []
front_and_last xs some =
    let whole : length xs - 1 + 1 ≡ length xs = omega arith in
    sym (take-length xs) ∙ ap (λ n. take n xs) (sym whole) ∙ take_more xs (length xs - 1) 0 (omega arith)

-- a word with this front and a digit from 1 to 8
pub gives_workers : (word : List ℕ) → 0 < length word → take (length word - 1) word ≡ codes "--workers=" → 49 ≤ get_or word (length word - 1) 0 → get_or word (length word - 1) 0 ≤ 56
    → (n : ℕ) × IsWorkers word n
gives_workers word some front low high =
    let digit = get_or word (length word - 1) 0 in
    let same : digit ≡ 48 + (digit - 48) = omega arith in
    (digit - 48, (front_and_last word some ∙ ap (λ f. f ++ digit ∷ []) front ∙ ap (λ d. codes "--workers=" ++ d ∷ []) same, omega arith, omega arith))

pub workers_digit : (word : List ℕ) (n : ℕ) → IsWorkers word n → get_or word (length word - 1) 0 ≡ 48 + n
workers_digit word n w = ap (λ ws. get_or ws (length ws - 1) 0) w.0

-- words of no form say no command
pub no_command : (words : List (List ℕ)) → ((path : List ℕ) → words ≡ codes "run" ∷ path ∷ [] → IsPath path → ⊥)
    → ((path w : List ℕ) (n : ℕ) → words ≡ codes "run" ∷ path ∷ w ∷ [] → IsPath path → IsWorkers w n → ⊥)
    → ((path w : List ℕ) (n : ℕ) → words ≡ codes "run" ∷ w ∷ path ∷ [] → IsPath path → IsWorkers w n → ⊥) → (HasForm form.Demo words → ⊥)
    → ((path : List ℕ) → words ≡ codes "fold" ∷ path ∷ [] → IsPath path → ⊥) → ((path : List ℕ) → words ≡ codes "cuboids" ∷ path ∷ [] → IsPath path → ⊥)
    → (HasForm form.Step words → ⊥) → (command : Command) → Say words command → ⊥
no_command words r first last d f k s (run path None) h = r path h.0 h.1
no_command words r first last d f k s (run path (Some n)) h = elim h.1 [ inl e ↦ first path h.0 n e h.2 h.3 | inr e ↦ last path h.0 n e h.2 h.3 ]
no_command words r first last d f k s (demo number rows) h = d (number, rows, h)
no_command words r first last d f k s (fold path) h = f path h.0 h.1
no_command words r first last d f k s (cuboids path) h = k path h.0 h.1
no_command words r first last d f k s (step task product stop) h = s (task, product, stop, h)
