use Rattle.std.proofs.Common.{◌≡◌, ◌<◌, ℕ, zero, suc, [], ◌∷◌, codes, get_or, lit<, lit≤, refl, arith, rules}
use Rattle.std.specs.Fmt.{digits}
use Rattle.cube_val.specs.Numbers.{IsFraction, IsWhole, none, plus, minus}
use Rattle.cube_val.proofs.examples.worked_examples.Goals as goal

pub returns-clause-minus_zero : goal.returns-clause-minus_zero
returns-clause-minus_zero c = record {
  sign = minus;
  digits = codes "0";
  spelling = refl;
  whole = record { numeral = (lit< tt, (lit< tt, tt)); short = lit≤ tt };
  value = refl;
  fits = search rules;
}

ten : IsWhole (codes "10")
ten = record { numeral = (lit< tt, (lit< tt, (lit< tt, tt))); short = lit≤ tt }

only_zero : (k d : ℕ) → k < 1 → get_or (48 ∷ []) k d ≡ 48
only_zero zero d within = refl
only_zero (suc k) d within = absurd (omega arith)

half : IsFraction (codes "50000")
half = record {
  all_digits = (lit< tt, (lit< tt, (lit< tt, (lit< tt, (lit< tt, tt)))));
  short = lit≤ tt;
  zeros = only_zero;
}

pub returns-clause-zeros_past_the_fourth : goal.returns-clause-zeros_past_the_fourth
returns-clause-zeros_past_the_fourth c = record {
  sign = none;
  whole = codes "10";
  fraction = codes "50000";
  spelling = refl;
  is_whole = ten;
  is_fraction = half;
  value = refl;
  fits = search rules;
}

pub returns-clause-no_point : goal.returns-clause-no_point
returns-clause-no_point c = record {
  sign = plus;
  whole = codes "3";
  fraction = [];
  spelling = refl;
  is_whole = record { numeral = (lit< tt, (lit< tt, tt)); short = lit≤ tt };
  is_fraction = record { all_digits = tt; short = lit≤ tt; zeros = λ k d within. absurd (omega (arith, within)) };
  value = refl;
  fits = search rules;
}

pub returns-clause-whole_printed : goal.returns-clause-whole_printed
unfolding digits
returns-clause-whole_printed c = refl

pub returns-clause-decimal_printed : goal.returns-clause-decimal_printed
unfolding digits
returns-clause-decimal_printed c = refl

pub returns-clause-below_zero : goal.returns-clause-below_zero
unfolding digits
returns-clause-below_zero c = refl
