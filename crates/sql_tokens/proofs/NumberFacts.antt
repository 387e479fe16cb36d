-- Digits and the numbers that they write.
use Rattle.std.proofs.Common.{◌≡◌, ◌<◌, ◌≤◌, ◌+◌, ◌*◌, ◌-◌, ◌^◌, ◌∙◌, ℕ, Bool, true, List, [], ◌∷◌, length, take, get_or, arith, ap, refl, cond, lit<, lit≤, false, one-add}
use Rattle.std.specs.List.{prefix_len}
use Rattle.std.specs.Char.{digit_value, is_ascii_digit}
use Rattle.std.proofs.lemmas.Bool.Decides.{nat_tests}
use Rattle.std.specs.Str.Parse.{AllDigits, digits_value}
use Rattle.std.proofs.lemmas.Str.Parse.{digit_at, digits_value-take-le}
use Rattle.std.proofs.lemmas.Int.Digits.{digits_value_more}
use Rattle.cube_val.specs.Numbers.{four_places}
use Rattle.cube_val.proofs.Digits.{digit_value_is, value_below}

-- the next digit of a number: it is one, and with it the number stays below this power of ten
pub record Step (ds : List ℕ) (i : ℕ) : Type 0 where
  pub low : 48 ≤ get_or ds i 0
  pub high : get_or ds i 0 ≤ 57
  pub more : digits_value 10 (take (i + 1) ds) ≡ digits_value 10 (take i ds) * 10 + (get_or ds i 0 - 48)
  pub small : digits_value 10 (take (i + 1) ds) < 10 ^ 30

pub step_at : (ds : List ℕ) (i : ℕ) → AllDigits 10 ds → length ds ≤ 30 → i < length ds → Step ds i
step_at ds i all few within =
    let digit = digit_at ds i all within in
    let total = value_below ds 30 all few in
    let part = digits_value-take-le 10 ds (i + 1) (omega arith) in
    record {
      low = digit.0;
      high = digit.1;
      more = digits_value_more 10 ds i within ∙ ap (λ n. digits_value 10 (take i ds) * 10 + n) (digit_value_is _ digit);
      small = omega arith;
    }

pub four_places_digits : (ds : List ℕ) → AllDigits 10 ds → AllDigits 10 (four_places ds)
four_places_digits [] h = (lit< tt, (lit< tt, (lit< tt, (lit< tt, tt))))
four_places_digits (a ∷ []) h = (h.0, (lit< tt, (lit< tt, (lit< tt, tt))))
four_places_digits (a ∷ b ∷ []) h = (h.0, (h.1.0, (lit< tt, (lit< tt, tt))))
four_places_digits (a ∷ b ∷ c ∷ []) h = (h.0, (h.1.0, (h.1.1.0, (lit< tt, tt))))
four_places_digits (a ∷ b ∷ c ∷ d ∷ ds) h = (h.0, (h.1.0, (h.1.1.0, (h.1.1.1.0, tt))))

four_places_short : (ds : List ℕ) → length (four_places ds) ≤ 4
four_places_short [] = lit≤ tt
four_places_short (a ∷ []) = lit≤ tt
four_places_short (a ∷ b ∷ []) = lit≤ tt
four_places_short (a ∷ b ∷ c ∷ []) = lit≤ tt
four_places_short (a ∷ b ∷ c ∷ d ∷ ds) = lit≤ tt

-- what four places write
pub places_below : (ds : List ℕ) → AllDigits 10 ds → digits_value 10 (four_places ds) < 10 ^ 4
places_below ds h = value_below (four_places ds) 4 (four_places_digits ds h) (four_places_short ds)

-- ---- runs of digits

digit_from_test : (c : ℕ) → is_ascii_digit c ≡ true → digit_value c < 10
digit_from_test c h = grind (arith, nat_tests)

run_step : (t : Bool) (b : ℕ) (bs : List ℕ) → (t ≡ true → digit_value b < 10) → AllDigits 10 (take (prefix_len is_ascii_digit bs) bs) → AllDigits 10 (take (cond t (1 + prefix_len is_ascii_digit bs) 0) (b ∷ bs))
run_step true b bs digit h = rw one-add (digit refl, h)
run_step false b bs digit h = tt

pub run_digits : (bs : List ℕ) → AllDigits 10 (take (prefix_len is_ascii_digit bs) bs)
run_digits [] = tt
run_digits (b ∷ bs) = run_step (is_ascii_digit b) b bs (digit_from_test b) (run_digits bs)
