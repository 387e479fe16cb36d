use Rattle.std.proofs.Common.{◌≡◌, ◌&&◌, ◌||◌, ℕ, List, [], true, false, not, get_or, length, take, sym, ap, ◌∙◌, refl, arith}
use Rattle.std.specs.Prelude.{◌==◌}
use Rattle.std.specs.List.{list_any}
use Rattle.std.specs.Ordering.{is_eq}
use Rattle.std.proofs.lemmas.List.{get_or_default}
use Rattle.std.proofs.lemmas.List.Folds.{list_any_more}
use Rattle.cube_val.specs.Order.{row_cmp}
use Rattle.table_reader.specs.Keys.{Repeats, has_null, key_of}
use Rattle.table_reader.proofs.KeyFacts.{distinct_front, is_keyed_by, no_repeat_from_test, repeats_from_test}
use Rattle.table_reader.proofs.key.repeated_key.Goals as goal
use borrow.Author.Count.{below_more}

pub loop-i-init : goal.loop-i-init
loop-i-init c = (λ q. rw c.new-keys.ensures.empty refl, λ k small r. absurd (omega arith))

pub of-requires : goal.of-requires
of-requires c = λ k d h. rw c.index-rows-i.is (c.requires.within c.loop-i.i c.index-rows-i.result c.loop-i-test.true k d h)

pub returns-then-repeats-clause-some : goal.returns-then-repeats-clause-some
returns-then-repeats-clause-some c =
    let places = c.args.places.now in
    let rows = c.args.rows.now in
    let i = c.loop-i.i in
    let row = get_or rows i [] in
    let item : c.index-rows-i.result ≡ row = c.index-rows-i.is ∙ get_or_default rows i c.index-rows-i.result [] c.loop-i-test.true in
    let keyed : c.of.result ≡ key_of places row = c.of.ensures ∙ ap (key_of places) item in
    let told = rw keyed at c.in_ok-repeats.ensures.repeats in
    let test : c.in_ok-repeats.repeats ≡ (not (has_null (key_of places row)) && list_any (is_keyed_by places (key_of places row)) (take i rows)) =
    told ∙ ap (λ b. not (has_null (key_of places row)) && b) (c.loop-i.invariant.0 (key_of places row)) in
    let there : places ≡ [] → ⊥ = λ e.
    let bad : false ≡ true = sym c.if-is_empty.false ∙ c.is_empty.ensures ∙ ap (λ (xs : List ℕ). length xs == 0) e in
    cc bad in (
      c.loop-i-test.true,
      distinct_front places rows i (omega arith) c.loop-i.invariant.1,
      repeats_from_test places (take i rows) row there (sym test ∙ c.if-repeats.true),
    )

pub loop-i-preserved : goal.loop-i-preserved
loop-i-preserved c =
    let places = c.args.places.now in
    let rows = c.args.rows.now in
    let i = c.loop-i.i in
    let row = get_or rows i [] in
    let item : c.index-rows-i.result ≡ row = c.index-rows-i.is ∙ get_or_default rows i c.index-rows-i.result [] c.loop-i-test.true in
    let keyed : c.of.result ≡ key_of places row = c.of.ensures ∙ ap (key_of places) item in
    let told = rw keyed at c.in_ok-repeats.ensures.repeats in
    let adds = rw keyed at c.in_ok-repeats.ensures.adds in
    let test : c.in_ok-repeats.repeats ≡ (not (has_null (key_of places row)) && list_any (is_keyed_by places (key_of places row)) (take i rows)) =
    told ∙ ap (λ b. not (has_null (key_of places row)) && b) (c.loop-i.invariant.0 (key_of places row)) in (
      λ q. adds q ∙ ap (λ b. b || (not (has_null (key_of places row)) && is_eq (row_cmp (key_of places row) q))) (c.loop-i.invariant.0 q)
          ∙ sym (list_any_more (is_keyed_by places q) rows i [] c.loop-i-test.true),
      below_more (λ k. Repeats places (take k rows) (get_or rows k []) → ⊥) i c.loop-i.invariant.1 (no_repeat_from_test places (take i rows) row (sym test ∙ c.if-repeats.false)),
    )

pub returns-clause-none : goal.returns-clause-none
returns-clause-none c = λ i small. c.loop-i.invariant.1 i (omega arith)
