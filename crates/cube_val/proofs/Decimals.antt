-- What the reader of decimals splits off, and what a decimal's parts are.
use Rattle.std.proofs.Common.{◌≡◌, ◌<◌, ◌≤◌, ◌+◌, ◌*◌, ◌++◌, ◌==◌, ℕ, ℤ, Bool, true, false, cond, Option, Some, None, List, [], ◌∷◌, length, drop, unwrap_or, not, nat_lt, arith, lit<, lit≤, refl, sym, ap, ◌∙◌}
use Rattle.std.specs.Prelude.{IfSome, IfNone, SomeIff, FitsSigned}
use Rattle.std.specs.Int.{w64, IsInRange}
use Rattle.std.specs.Char.{is_ascii_digit}
use Rattle.std.specs.List.{before_first, list_all, position, position_or_len}
use Rattle.std.specs.Str.Parse.{AllDigits, digits_value}
use Rattle.std.proofs.Math.Seq.{take-append_seam, drop-append_seam}
use Rattle.std.proofs.lemmas.Bool.Decides.{nat_tests}
use Rattle.std.proofs.lemmas.List.Sums.{prefix_len-le-length, AllPass-from_list_all, list_all-from_AllPass}
use Rattle.std.proofs.lemmas.List.{take-append-drop}
use Rattle.std.proofs.lemmas.Str.Parse.{digit_from_value}
use borrow.Author.Tests.{eqb-true}
use Rattle.cube_val.specs.Numbers.{sign_text, signed, with_point, four_places, IsFraction, IsWhole, WritesDecimal}
use Rattle.cube_val.specs.Splits.{IsSplit, IsTail, from_point, is_point, signed_by}
use Rattle.cube_val.proofs.Digits.{digits_from_test, test_from_digits, value_below, first_digit}
use Rattle.cube_val.proofs.Signs.{spelled, split_is}

-- ---- the four places

four_places_short : (ds : List ℕ) → length (four_places ds) ≤ 4
four_places_short [] = lit≤ tt
four_places_short (a ∷ []) = lit≤ tt
four_places_short (a ∷ b ∷ []) = lit≤ tt
four_places_short (a ∷ b ∷ c ∷ []) = lit≤ tt
four_places_short (a ∷ b ∷ c ∷ d ∷ ds) = lit≤ tt

four_places_digits : (ds : List ℕ) → AllDigits 10 ds → AllDigits 10 (four_places ds)
four_places_digits [] h = (lit< tt, (lit< tt, (lit< tt, (lit< tt, tt))))
four_places_digits (a ∷ []) h = (h.0, (lit< tt, (lit< tt, (lit< tt, tt))))
four_places_digits (a ∷ b ∷ []) h = (h.0, (h.1.0, (lit< tt, (lit< tt, tt))))
four_places_digits (a ∷ b ∷ c ∷ []) h = (h.0, (h.1.0, (h.1.1.0, (lit< tt, tt))))
four_places_digits (a ∷ b ∷ c ∷ d ∷ ds) h = (h.0, (h.1.0, (h.1.1.0, (h.1.1.1.0, tt))))

-- what the two tests of the reader say of the digits after a point
pub record Tested (ds : List ℕ) : Type 0 where
  pub four : AllDigits 10 (four_places ds)
  pub small : digits_value 10 (four_places ds) < 10_000
  pub is_fraction : IsFraction ds

pub fraction_from_tests : (ds : List ℕ) → list_all is_ascii_digit ds ≡ true → list_all (λ (byte : ℕ). byte == 48) (drop 4 ds) ≡ true → length ds ≤ 18 → Tested ds
fraction_from_tests ds digits zeros short =
    let all = digits_from_test ds digits in
    let four = four_places_digits ds all in
    let past = AllPass-from_list_all (λ (byte : ℕ). byte == 48) (drop 4 ds) zeros in
    record {
      four = four;
      small = value_below (four_places ds) 4 four (four_places_short ds);
      is_fraction = record { all_digits = all; short = short; zeros = λ k d within. eqb-true _ _ (past k d within) };
    }

same_test : (x y : ℕ) → x ≡ y → (x == y) ≡ true
same_test x y e = grind (arith, nat_tests)

pub tests_from_fraction : (ds : List ℕ) → IsFraction ds → (list_all is_ascii_digit ds ≡ true) × (list_all (λ (byte : ℕ). byte == 48) (drop 4 ds) ≡ true)
tests_from_fraction ds h =
    (test_from_digits ds h.all_digits, list_all-from_AllPass (λ (byte : ℕ). byte == 48) (drop 4 ds) (λ k d within. same_test _ _ (h.zeros k d within)))

-- ---- the split at the point

pub place_or_length : (bytes : List ℕ) (o : Option ℕ) → o ≡ position is_point bytes → unwrap_or o (length bytes) ≡ position_or_len is_point bytes
place_or_length bytes o e = rw e (split (nat_lt (position_or_len is_point bytes) (length bytes)) refl) where
  split : (b : Bool) → nat_lt (position_or_len is_point bytes) (length bytes) ≡ b → unwrap_or (cond b (Some (position_or_len is_point bytes)) None) (length bytes) ≡ position_or_len is_point bytes
  split true h = refl
  split false h = let low = prefix_len-le-length (λ x. not (is_point x)) bytes in grind (arith, nat_tests)

no_point : (c : ℕ) → IsInRange 48 57 c → is_point c ≡ false
no_point c h = grind (arith, nat_tests)

point_place : (whole fraction : List ℕ) → AllDigits 10 whole → position_or_len is_point (whole ++ with_point fraction) ≡ length whole
point_place [] [] all = refl
point_place [] (d ∷ ds) all = refl
point_place (c ∷ cs) fraction all = rw (no_point c (digit_from_value c all.0), point_place cs fraction all.1) (omega arith)

-- the reader splits digits and a fraction where they meet
pub record CutAs (bytes whole fraction : List ℕ) : Type 0 where
  pub before : before_first is_point bytes ≡ whole
  pub from : from_point bytes ≡ with_point fraction

cut_as : (whole fraction : List ℕ) → AllDigits 10 whole → CutAs (whole ++ with_point fraction) whole fraction
cut_as whole fraction all =
    record { before = rw (point_place whole fraction all) (take-append_seam whole _); from = rw (point_place whole fraction all) (drop-append_seam whole _) }

-- a tail has one fraction
pub one_fraction : (a b : List ℕ) → with_point a ≡ with_point b → a ≡ b
one_fraction [] [] e = refl
one_fraction [] (d ∷ ds) e = cc
one_fraction (d ∷ ds) [] e = cc
one_fraction (c ∷ cs) (d ∷ ds) e = cc

pub one_tail : (tail : List ℕ) (p q : ℕ) → IsTail tail p → IsTail tail q → p ≡ q
one_tail tail p q g h = g.value ∙ ap (λ ds. digits_value 10 (four_places ds)) (one_fraction _ _ (sym g.spelling ∙ h.spelling)) ∙ sym h.value

-- ---- the parts of a decimal

-- the bytes of a decimal as the reader splits them
pub record DecimalParts (negative : Bool) (rest : List ℕ) (units : ℤ) : Type 0 where
  pub places : ℕ
  pub is_whole : IsWhole (before_first is_point rest)
  pub is_tail : IsTail (from_point rest) places
  pub value : units ≡ signed_by negative (digits_value 10 (before_first is_point rest) * 10_000 + places)
  pub fits : FitsSigned w64 units

pub one_number : (negative : Bool) (rest : List ℕ) (n m : ℤ) → DecimalParts negative rest n → DecimalParts negative rest m → n ≡ m
one_number negative rest n m a b =
    a.value ∙ ap (λ (p : ℕ). signed_by negative (digits_value 10 (before_first is_point rest) * 10_000 + p)) (one_tail _ _ _ a.is_tail b.is_tail) ∙ sym b.value

pub decimal_parts : (bytes : List ℕ) (negative : Bool) (rest : List ℕ) → IsSplit bytes negative rest → (units : ℤ) → WritesDecimal bytes units → DecimalParts negative rest units
decimal_parts bytes negative rest split units w =
    let s = split_is bytes negative rest split w.sign (w.whole ++ with_point w.fraction) w.spelling (first_digit w.whole (with_point w.fraction) w.is_whole.numeral) in
    let cut = cut_as w.whole w.fraction w.is_whole.numeral.1 in
    record {
      places = digits_value 10 (four_places w.fraction);
      is_whole = rw (s.rest_is, cut.before) w.is_whole;
      is_tail = rw s.rest_is (record { fraction = w.fraction; spelling = cut.from; is_fraction = w.is_fraction; value = refl });
      value = w.value ∙ s.same _ ∙ rw (s.rest_is, cut.before) refl;
      fits = w.fits;
    }

pub decimal_from_parts : (bytes : List ℕ) (negative : Bool) (rest : List ℕ) → IsSplit bytes negative rest → (units : ℤ) → DecimalParts negative rest units → WritesDecimal bytes units
decimal_from_parts bytes negative rest split units p =
    let s = spelled bytes negative rest split in
    let joined : rest ≡ before_first is_point rest ++ with_point p.is_tail.fraction = sym (take-append-drop _ rest) ∙ ap (λ t. before_first is_point rest ++ t) p.is_tail.spelling in
    record {
      sign = s.sign;
      whole = before_first is_point rest;
      fraction = p.is_tail.fraction;
      spelling = s.spelling ∙ ap (λ t. sign_text s.sign ++ t) joined;
      is_whole = p.is_whole;
      is_fraction = p.is_tail.is_fraction;
      value = p.value ∙ sym (s.same _) ∙ ap (λ n. signed s.sign (digits_value 10 (before_first is_point rest) * 10_000 + n)) p.is_tail.value;
      fits = p.fits;
    }

-- the reader's last step: the parts are there, and the value is in an i64 or not
pub decimal_some : (bytes : List ℕ) (negative : Bool) (rest : List ℕ) → IsSplit bytes negative rest → (size places : ℕ) (r : Option ℤ)
    → IsWhole (before_first is_point rest) × (size ≡ digits_value 10 (before_first is_point rest)) → IsTail (from_point rest) places
    → SomeIff r (FitsSigned w64 (signed_by negative (size * 10_000 + places))) (signed_by negative (size * 10_000 + places))
    → IfSome r (λ units. WritesDecimal bytes units)
decimal_some bytes negative rest split size places None whole tail h = tt
decimal_some bytes negative rest split size places (Some units) whole tail h =
    decimal_from_parts bytes negative rest split units (record {
      places = places;
      is_whole = whole.0;
      is_tail = tail;
      value = h.1 ∙ ap (λ (n : ℕ). signed_by negative (n * 10_000 + places)) whole.1;
      fits = rw (sym h.1) at h.0;
    })

pub decimal_none : (bytes : List ℕ) (negative : Bool) (rest : List ℕ) → IsSplit bytes negative rest → (size places : ℕ) (r : Option ℤ)
    → IsWhole (before_first is_point rest) × (size ≡ digits_value 10 (before_first is_point rest)) → IsTail (from_point rest) places
    → SomeIff r (FitsSigned w64 (signed_by negative (size * 10_000 + places))) (signed_by negative (size * 10_000 + places))
    → IfNone r ((units : ℤ) → WritesDecimal bytes units → ⊥)
decimal_none bytes negative rest split size places (Some units) whole tail h = tt
decimal_none bytes negative rest split size places None whole tail h = λ units w.
    let p = decimal_parts bytes negative rest split units w in
    let same : units ≡ signed_by negative (size * 10_000 + places) =
    p.value ∙ ap (λ (n : ℕ). signed_by negative (digits_value 10 (before_first is_point rest) * 10_000 + n)) (one_tail _ _ _ p.is_tail tail)
    ∙ ap (λ (n : ℕ). signed_by negative (n * 10_000 + places)) (sym whole.1) in
    h (rw same at p.fits)
