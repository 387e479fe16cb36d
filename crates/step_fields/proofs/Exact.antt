-- Values, rows, days and ranges are read exactly.
use Rattle.std.proofs.Common.{◌≡◌, ◌≢◌, ℕ, ℤ, zero, suc, ◌+◌, ◌^◌, ◌<◌, ◌≤◌, Bool, true, false, not, cond, List, [], ◌∷◌, ◌++◌, length, take, drop, Option, Some, None, IsTrue, refl, sym, ap, subst, ◌∙◌, arith, rules}
use Rattle.std.specs.Prelude.{FitsSigned, is_some, nat_lt}
use Rattle.std.proofs.lemmas.Bool.{ltb-true}
use Rattle.std.proofs.lemmas.Bool.Decides.{nat_tests}
use Rattle.std.specs.Int.{w64}
use Rattle.std.specs.Str.{is_utf8}
use Rattle.std.proofs.lemmas.Str.{IsUtf8-from_is_utf8, is_utf8-from_IsUtf8}
use Rattle.byte_frame.specs.Exact.{Exact, IsBytes, Takes}
use Rattle.byte_frame.specs.Reading.{◌>>=◌, as_at, byte_at, bytes_at, signed_at}
use Rattle.byte_frame.specs.Spelling.{signed_text}
use Rattle.byte_frame.proofs.Exact.{Takes-cons, bind_some, exact_as, exact_byte, exact_bytes, exact_each, exact_fit, exact_if, exact_list, exact_then, some_is, wide64}
use Rattle.byte_frame.proofs.Wide.{exact_signed}
use Rattle.calendar.specs.Dates.{IsDate, IsDateText, day_of, last_day}
use Rattle.calendar.proofs.Texts.{text_bound, text_is, text_read}
use Rattle.cube_val.specs.declared.val.ColType.{ColType}
use Rattle.cube_val.specs.declared.val.ColType.TheVariants as ty
use Rattle.cube_val.specs.declared.val.Val.{Val}
use Rattle.cube_val.specs.declared.val.Val.TheVariants.{Null, Int, Text}
use Rattle.cube_val.specs.Texts.{IsText}
use Rattle.cube_val.specs.Values.{FitsType, IsValue}
use Rattle.range_list.specs.Ranges.{Interval}
use Rattle.step_fields.specs.declared.column.Column.{Column}
use Rattle.calendar.specs.DayTexts.{day_text}
use Rattle.step_fields.specs.Fits.{FitsColumn, FitsRow, FitsRows, IsDay, IsDayRange}
use Rattle.step_fields.specs.Reading.{date_at, day_at, may_stand, range_at, range_from, row_at, rows_at, short_at, tagged_val_at, text_at, typed_at, val_at}
use Rattle.step_fields.specs.Spelling.{range_text, row_text, rows_text, short_text, val_text}
use Rattle.calendar.proofs.DayFacts.{only_text_of_day, text_of_day}

-- ---- values

exact_short : Exact short_text (λ (t : List ℕ). length t < 256) short_at
exact_short = exact_as (λ (p : ℕ × List ℕ). p.1) (λ (t : List ℕ). (length t, t)) _ _ (λ (t : List ℕ). length t < 256) _
    (λ x h. (ap (λ (k : ℕ). (k, x.1)) h.1, omega (arith, h.0, h.1)))
    (λ t h. (refl, (h, refl)))
    (exact_then _ _ _ (λ n (t : List ℕ). t) _ _ exact_byte (λ n h. exact_bytes n))

exact_text : Exact short_text IsText text_at
exact_text = exact_fit short_text (λ (t : List ℕ). (length t < 256) × (is_utf8 t ≡ true)) IsText text_at
    (λ t h. record { short = omega (arith, h.0); utf8 = IsUtf8-from_is_utf8 t h.1 })
    (λ t h. (omega (arith, h.short), is_utf8-from_IsUtf8 t h.utf8))
    (exact_if is_utf8 _ _ _ exact_short)

is_date : (bytes : List ℕ) → is_some (day_of bytes) ≡ true → IsDate bytes
is_date bytes h = by (day_of bytes) refl h where
  by : (found : Option ℕ) → day_of bytes ≡ found → is_some found ≡ true → IsDate bytes
  by (Some day) e h = (day, text_is bytes day e)
  by None e h = absurd cc

date_is : (bytes : List ℕ) → IsDate bytes → is_some (day_of bytes) ≡ true
date_is bytes h = rw (text_read bytes h.0 h.1) refl

exact_date : Exact short_text (λ (t : List ℕ). IsDate t × IsText t) date_at
exact_date = exact_fit short_text (λ (t : List ℕ). IsText t × (is_some (day_of t) ≡ true)) (λ (t : List ℕ). IsDate t × IsText t) date_at
    (λ t h. (is_date t h.1, h.0))
    (λ t h. (h.1, date_is t h.0))
    (exact_if (λ bytes. is_some (day_of bytes)) _ _ _ exact_text)

-- a value of the type
abbrev FitsTyped : ColType → Val → Type 0
FitsTyped t v = FitsType t v × IsValue v

-- the bytes behind a tag are those of a value of this kind
behind : {A : Type 0} (tag : ℕ) (kind : A → Val) (s : A → List ℕ) (F : A → Type 0) (r : List ℕ → Option (A × List ℕ)) (t : ColType)
    → Exact s F r → ((x : A) → val_text (kind x) ≡ tag ∷ s x) → ((x : A) → F x → FitsTyped t (kind x))
    → (bytes : List ℕ) (z : Val × List ℕ) → IsBytes bytes → as_at kind r bytes ≡ Some z → Takes (tag ∷ bytes) (val_text z.0) z.1 × FitsTyped t z.0
behind {A = A} tag kind s F r t read spelled fit bytes z fits e =
    let a = bind_some (r bytes) (λ x. Some (kind x.0, x.1)) z e in
    let l = read.takes bytes a.0 fits a.1 in
    let made : Val × List ℕ = (kind a.0.0, a.0.1) in
    subst (λ (y : Val × List ℕ). Takes (tag ∷ bytes) (val_text y.0) y.1 × FitsTyped t y.0) (some_is made z a.2)
    (subst (λ (w : List ℕ). Takes (tag ∷ bytes) w a.0.1) (sym (spelled a.0.0)) (Takes-cons tag bytes (s a.0.0) a.0.1 l.0), fit a.0.0 l.1)

val_take : (t : ColType) (tag : ℕ) (bytes : List ℕ) (z : Val × List ℕ) → IsBytes bytes → tagged_val_at t tag bytes ≡ Some z → Takes (tag ∷ bytes) (val_text z.0) z.1 × FitsTyped t z.0
val_take t zero bytes z fits e = subst (λ (y : Val × List ℕ). Takes (0 ∷ bytes) (val_text y.0) y.1 × FitsTyped t y.0) (some_is (Null, bytes) z e) (record { parts = refl; rest_fits = fits }, (tt, tt))
val_take ty.Int (suc zero) bytes z fits e = behind 1 Int _ _ (signed_at w64) ty.Int (exact_signed w64 wide64) (λ n. refl) (λ n h. (tt, h)) bytes z fits e
val_take ty.Decimal (suc zero) bytes z fits e = behind 1 Int _ _ (signed_at w64) ty.Decimal (exact_signed w64 wide64) (λ n. refl) (λ n h. (tt, h)) bytes z fits e
val_take ty.Text (suc zero) bytes z fits e = absurd cc
val_take ty.Date (suc zero) bytes z fits e = absurd cc
val_take ty.Int (suc (suc zero)) bytes z fits e = absurd cc
val_take ty.Decimal (suc (suc zero)) bytes z fits e = absurd cc
val_take ty.Text (suc (suc zero)) bytes z fits e = behind 2 Text _ _ text_at ty.Text exact_text (λ t. refl) (λ t h. (tt, h)) bytes z fits e
val_take ty.Date (suc (suc zero)) bytes z fits e = behind 2 Text _ _ date_at ty.Date exact_date (λ t. refl) (λ t h. h) bytes z fits e
val_take ty.Int (suc (suc (suc n))) bytes z fits e = absurd cc
val_take ty.Decimal (suc (suc (suc n))) bytes z fits e = absurd cc
val_take ty.Text (suc (suc (suc n))) bytes z fits e = absurd cc
val_take ty.Date (suc (suc (suc n))) bytes z fits e = absurd cc

val_takes : (t : ColType) (bytes : List ℕ) (z : Val × List ℕ) → IsBytes bytes → typed_at t bytes ≡ Some z → Takes bytes (val_text z.0) z.1 × FitsTyped t z.0
unfolding typed_at
val_takes t [] z fits e = absurd cc
val_takes t (tag ∷ bytes) z fits e = val_take t tag bytes z (λ i. fits (suc i)) e

val_again : (t : ColType) (v : Val) (rest : List ℕ) → FitsTyped t v → typed_at t (val_text v ++ rest) ≡ Some (v, rest)
unfolding typed_at
val_again t Null rest h = refl
val_again ty.Int (Int n) rest h = rw ((exact_signed w64 wide64).again n rest h.1) refl
val_again ty.Decimal (Int n) rest h = rw ((exact_signed w64 wide64).again n rest h.1) refl
val_again ty.Text (Int n) rest h = absurd h.0
val_again ty.Date (Int n) rest h = absurd h.0
val_again ty.Int (Text t) rest h = absurd h.0
val_again ty.Decimal (Text t) rest h = absurd h.0
val_again ty.Text (Text t) rest h = rw (exact_text.again t rest h.1) refl
val_again ty.Date (Text t) rest h = rw (exact_date.again t rest h) refl

exact_typed : (t : ColType) → Exact val_text (FitsTyped t) (typed_at t)
exact_typed t = record { takes = val_takes t; again = val_again t }

not_null : (no_null : Bool) (v : Val) → may_stand no_null v ≡ true → IsTrue no_null → v ≢ Null
not_null true Null h required e = cc
not_null true (Int n) h required e = cc
not_null true (Text t) h required e = cc
not_null false v h required e = cc

null_stands : (no_null : Bool) (v : Val) → (IsTrue no_null → v ≢ Null) → may_stand no_null v ≡ true
null_stands true Null h = absurd (h refl refl)
null_stands false Null h = refl
null_stands no_null (Int n) h = refl
null_stands no_null (Text t) h = refl

pub exact_val : (column : Column) → Exact val_text (FitsColumn column) (val_at column)
exact_val column = exact_fit val_text (λ (v : Val). FitsTyped column.ty v × (may_stand column.no_null v ≡ true)) (FitsColumn column) (val_at column)
    (λ v h. record { of_type = h.0.0; is_value = h.0.1; no_null = not_null column.no_null v h.1 })
    (λ v h. ((h.of_type, h.is_value), null_stands column.no_null v h.no_null))
    (exact_if (may_stand column.no_null) _ _ _ (exact_typed column.ty))

-- ---- rows

pub exact_row : (columns : List Column) → Exact row_text (FitsRow columns) (row_at columns)
exact_row columns = exact_each val_text FitsColumn val_at exact_val columns

pub exact_rows : (columns : List Column) (limit : ℕ) → limit < 2 ^ 32 → Exact rows_text (FitsRows columns limit) (rows_at columns limit)
exact_rows columns limit small = exact_list limit row_text (FitsRow columns) (row_at columns) small (exact_row columns)

-- ---- days and ranges

pub exact_day : Exact day_text IsDay day_at
exact_day = record {
  takes = λ bytes z fits e.
      let a = bind_some (bytes_at 10 bytes) (λ x. day_of x.0 >>= λ day. Some (day, x.1)) z e in
      let b = bind_some (day_of a.0.0) (λ day. Some (day, a.0.1)) z a.2 in
      let l = (exact_bytes 10).takes bytes a.0 fits a.1 in
      let text = text_is a.0.0 b.0 b.1 in
      let made : ℕ × List ℕ = (b.0, a.0.1) in
      subst (λ (y : ℕ × List ℕ). Takes bytes (day_text y.0) y.1 × IsDay y.0) (some_is made z b.2)
      (subst (λ (t : List ℕ). Takes bytes t a.0.1) (only_text_of_day a.0.0 b.0 text) l.0, text_bound a.0.0 b.0 text);
  again = λ day rest h.
      let text = text_of_day day h in
      let long : length (day_text day) ≡ 10 = ap length text.spelled in
      rw ((exact_bytes 10).again (day_text day) rest long, text_read (day_text day) day text) refl;
}

pub exact_range : Exact range_text IsDayRange range_at
exact_range = exact_as range_from (λ (r : Interval). (r.start, r.end)) _ _ IsDayRange _
    (λ days h. (refl, (ltb-true _ _ h.1, h.0.1)))
    (λ r h. (refl, ((omega (arith, h.0, h.1), h.1), grind (arith, nat_tests, h.0))))
    (exact_if (λ (days : ℕ × ℕ). nat_lt days.0 days.1) _ _ _ (exact_then _ _ _ (λ _ day. day_text day) _ _ exact_day (λ day h. exact_day)))
