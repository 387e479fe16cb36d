use Rattle.std.proofs.Common.{◌≡◌, ◌++◌, ◌∷◌, ◌∙◌, ℕ, List, [], false, true, ap, sym, refl, length, suc, arith}
use Rattle.std.specs.Prelude.{◌==◌}
use Rattle.std.proofs.lemmas.Bool.Decides.{nat_tests}
use Rattle.table_reader.specs.Digests.{digests_of}
use Rattle.table_reader.proofs.DigestFacts.{digests_of-none, digests_of-push}
use Rattle.table_reader.proofs.digest.add_digest.Goals as goal

empty_from : (xs : List ℕ) → (length xs == 0) ≡ true → xs ≡ []
empty_from [] h = refl
empty_from (x ∷ xs) h =
    let size : suc (length xs) ≡ 0 = grind (arith, nat_tests, h) in
    absurd (omega arith)

pub returns-then-is_empty : goal.returns-then-is_empty
returns-then-is_empty c rows are =
    let places = c.args.places.now in
    are ∙ digests_of-none places rows (rows ++ c.args.row.now ∷ []) (empty_from places (sym c.is_empty.ensures ∙ c.if-is_empty.true))

pub returns : goal.returns
returns c rows are =
    let places = c.args.places.now in
    let there : places ≡ [] → ⊥ = λ e.
    let bad : false ≡ true = sym c.if-is_empty.false ∙ c.is_empty.ensures ∙ ap (λ (xs : List ℕ). length xs == 0) e in
    cc bad in
    c.in_ok-push.ensures.items ∙ ap (λ xs. xs ++ c.digest.result ∷ []) are ∙ ap (λ n. digests_of places rows ++ n ∷ []) c.digest.ensures
    ∙ sym (digests_of-push places rows c.args.row.now there)
