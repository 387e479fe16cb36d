-- Texts in quotes.
use Rattle.std.proofs.Common.{◌≡◌, ℕ, ◌+◌, Bool, true, false, List, [], ◌∷◌, ◌++◌, length, Option, Some, None, refl, sym, ap, subst, ◌∙◌, arith, inl, inr, ◌⊎◌}
use Rattle.std.specs.Prelude.{nat_eq}
use Rattle.std.proofs.Common.{◌&&◌, nat_le}
use Rattle.std.proofs.lemmas.Bool.{eqb-true, leb-true, le-leb}
use Rattle.std.proofs.lemmas.Str.{IsUtf8-from_is_utf8, is_utf8-from_IsUtf8}
use Rattle.std.specs.Str.{is_utf8}
use Rattle.cube_val.specs.Texts.{IsText}
use Rattle.sql_tokens.specs.declared.kind.Kind.TheVariants as k
use Rattle.query_faults.specs.declared.sql.SqlKind.TheVariants as kinds
use Rattle.sql_tokens.specs.declared.payload.Payload.TheVariants as payloads
use Rattle.sql_tokens.specs.declared.lexeme.Lexeme.TheVariants as lexeme
use Rattle.sql_tokens.specs.Quotes.{doubled, is_text, put, text_behind, text_lexeme}
use Rattle.sql_tokens.specs.Laws.{is_quote_first, DoubledIsRead, ReadIsDoubled}

both_ways : (a : Bool) → (a ≡ true) ⊎ (a ≡ false)
both_ways true = inl refl
both_ways false = inr refl

and_left : (a b : Bool) → (a && b) ≡ true → a ≡ true
and_left true b e = refl
and_left false b e = e

and_right : (a b : Bool) → (a && b) ≡ true → b ≡ true
and_right true b e = e
and_right false b e = absurd cc

one_byte : (b : ℕ) → nat_eq b 39 ≡ false → length (doubled (b ∷ [])) ≡ 1
one_byte b e = rw e refl

pub length-doubled-append : (xs ys : List ℕ) → length (doubled (xs ++ ys)) ≡ length (doubled xs) + length (doubled ys)
length-doubled-append [] ys = omega arith
length-doubled-append (x ∷ xs) ys =
    elim (both_ways (nat_eq x 39)) [
      | inl e ↦ rw e (omega (arith, length-doubled-append xs ys))
      | inr e ↦ rw e (omega (arith, length-doubled-append xs ys))
    ]

pub longer_quote : (read : List ℕ) → length (doubled (read ++ 39 ∷ [])) ≡ length (doubled read) + 2
longer_quote read = length-doubled-append read (39 ∷ [])

is_quote : (b : ℕ) → nat_eq b 39 ≡ true → b ≡ 39
is_quote b e = eqb-true b 39 e

no_quote : (b : ℕ) → (b ≡ 39 → ⊥) → nat_eq b 39 ≡ false
no_quote b h =
    elim (both_ways (nat_eq b 39)) [
      | inl e ↦ absurd (h (is_quote b e))
      | inr e ↦ e
    ]

pub longer_byte : (read : List ℕ) (b : ℕ) → (b ≡ 39 → ⊥) → length (doubled (read ++ b ∷ [])) ≡ length (doubled read) + 1
longer_byte read b h = length-doubled-append read (b ∷ []) ∙ ap (λ (n : ℕ). length (doubled read) + n) (one_byte b (no_quote b h))

put_some : (b : ℕ) (o : Option (List ℕ)) (text : List ℕ) → put b o ≡ Some text → (bs : List ℕ) × (o ≡ Some bs) × (text ≡ b ∷ bs)
put_some b None text e = absurd cc
put_some b (Some bs) text e = (bs, refl, cc)

-- ---- the laws

pub doubled_is_read : DoubledIsRead
doubled_is_read [] [] e = refl
doubled_is_read [] (r ∷ rest) e = rw e refl
doubled_is_read (b ∷ bs) rest e =
    elim (both_ways (nat_eq b 39)) [
      | inl q ↦ (let b-is = is_quote b q in let ih = doubled_is_read bs rest e in rw (q, ih) (ap (λ (w : ℕ). Some (w ∷ bs)) (sym b-is)))
      | inr q ↦ (let ih = doubled_is_read bs rest e in rw (q, q, ih) refl)
    ]

abbrev IsEnding : List ℕ → List ℕ → Type 0
IsEnding bytes text = (rest : List ℕ) × (bytes ≡ doubled text ++ 39 ∷ rest) × (is_quote_first rest ≡ false)

-- behind a quote that may end the text that quote is read again
abbrev Written : Bool → List ℕ → List ℕ → Type 0
Written false bytes text = IsEnding bytes text
Written true bytes text = IsEnding (39 ∷ bytes) text

some_is : (a b : List ℕ) → Some a ≡ Some b → a ≡ b
some_is a b e = cc

alone : (bytes text : List ℕ) → is_quote_first bytes ≡ false → Some [] ≡ Some text → IsEnding (39 ∷ bytes) text
alone bytes text first e = subst (λ (w : List ℕ). IsEnding (39 ∷ bytes) w) (some_is [] text e) (bytes, refl, first)

quoted_byte : (b : ℕ) (bs text : List ℕ) → b ≡ 39 → IsEnding (39 ∷ bs) text → IsEnding (b ∷ bs) text
quoted_byte b bs text e w = rw e w

one_more : (b : ℕ) (bs us : List ℕ) → nat_eq b 39 ≡ false → IsEnding bs us → IsEnding (b ∷ bs) (b ∷ us)
one_more b bs us e w = (w.0, rw (e, w.1) refl, w.2)

two_more : (bs us : List ℕ) → IsEnding bs us → IsEnding (39 ∷ (39 ∷ bs)) (39 ∷ us)
two_more bs us w = (w.0, rw w.1 refl, w.2)

written : (after : Bool) (bytes text : List ℕ) → text_behind after bytes ≡ Some text → Written after bytes text
written false [] text e = absurd cc
written true [] text e = alone [] text refl e
written false (b ∷ bs) text e =
    elim (both_ways (nat_eq b 39)) [
      | inl q ↦ quoted_byte b bs text (is_quote b q) (written true bs text (rw q at e))
      | inr q ↦ (
          let p = put_some b (text_behind false bs) text (rw q at e) in
          rw p.2 (one_more b bs p.0 q (written false bs p.0 p.1)))
    ]
written true (b ∷ bs) text e =
    elim (both_ways (nat_eq b 39)) [
      | inl q ↦ (
          let p = put_some 39 (text_behind false bs) text (rw q at e) in
          rw (is_quote b q, p.2) (two_more bs p.0 (written false bs p.0 p.1)))
      | inr q ↦ alone (b ∷ bs) text q (rw q at e)
    ]

pub read_is_doubled : ReadIsDoubled
read_is_doubled bytes text e = written false bytes text e

-- ---- tokens

pub text_token : (text bytes : List ℕ) (len : ℕ) → bytes ≡ text → IsText text → len ≡ length (doubled text) + 2 → lexeme.Token k.Text (payloads.Text bytes) len ≡ text_lexeme (Some text)
text_token text bytes len same h e =
    let short : nat_le (length text) 255 ≡ true = le-leb _ _ h.short in
    let utf8 : is_utf8 text ≡ true = is_utf8-from_IsUtf8 text h.utf8 in
    rw (short, utf8, same, e) refl

pub no_text_token : (text : List ℕ) → (IsText text → ⊥) → lexeme.Bad kinds.BadToken ≡ text_lexeme (Some text)
no_text_token text not_one =
    elim (both_ways (is_text text)) [
      | inl is_one ↦ absurd (not_one (record { short = leb-true _ _ (and_left (nat_le (length text) 255) (is_utf8 text) is_one); utf8 = IsUtf8-from_is_utf8 text (and_right (nat_le (length text) 255) (is_utf8 text) is_one) }))
      | inr not_text ↦ rw not_text refl
    ]
