use Rattle.std.proofs.Common.{◌≡◌, ◌∙◌, [], ◌∷◌, ◌++◌, ◌-◌, ℕ, List, length, ap, arith, sym, subst}
use Rattle.std.specs.Prelude.{All}
use Rattle.entry_log.specs.Logs.{FitsBody, IsLog, bodies_of, entries_text}
use Rattle.entry_log.proofs.Appended.{All-push}
use Rattle.entry_log.proofs.Reading.{bodies-push, closed_gate, no_log, one_more, single_log}
use Rattle.entry_log.proofs.read.read_log.Goals as goal

pub returns-then-bytes-eq1-clause-ok : goal.returns-then-bytes-eq1-clause-ok
returns-then-bytes-eq1-clause-ok c = rw (c.new-bodies.ensures.items, c.at.ensures) (single_log c.args.bytes.now c.if-bytes-eq1.true)

pub loop-body-preserved : goal.loop-body-preserved
loop-body-preserved c =
    let so_far = bodies_of c.loop-body.bodies.items in
    let same : bodies_of c.push.new.self.items ≡ so_far ++ c.in-Some.body.now ∷ [] = ap bodies_of c.in_ok-push.ensures.items ∙ bodies-push c.loop-body.bodies.items c.in_ok-from_slice.field-0 ∙ ap (λ (b : List ℕ). so_far ++ b ∷ []) c.in_ok-from_slice.ensures.items in
    record {
      text = one_more c.args.bytes.now c.loop-body.rest.now c.in-Some.body.now c.in-Some.behind.now so_far c.loop-body.invariant.text c.in-Some.ensures.some.1 ∙ ap (λ (l : List (List ℕ)). entries_text l ++ c.in-Some.behind.now) (sym same);
      fits = subst (λ (l : List (List ℕ)). All FitsBody l) (sym same) (All-push so_far c.in-Some.body.now c.loop-body.invariant.fits c.in-Some.ensures.some.0);
    }

-- neither an entry nor a closed gate stands behind the entries that were read
pub returns-then-not-is_shut-clause-not_log : goal.returns-then-not-is_shut-clause-not_log
returns-then-not-is_shut-clause-not_log c = λ is. no_log c.args.bytes.now c.loop-body.rest.now (bodies_of c.loop-body.bodies.items) c.if-bytes-eq1.false c.loop-body.invariant.text c.loop-body.invariant.fits c.in_default.ensures.none
    (sym c.is_shut.ensures ∙ c.if-not-is_shut.true)

pub returns-clause-ok : goal.returns-clause-ok
returns-clause-ok c =
    let place : length c.args.bytes.now - length c.loop-body.rest.now ≡ c.at-2.result = omega (arith, c.at-2.ensures, c.saturating_sub.ensures) in
    subst (λ (n : ℕ). IsLog c.args.bytes.now (bodies_of c.loop-body.bodies.items) n) place
    (closed_gate c.args.bytes.now c.loop-body.rest.now (bodies_of c.loop-body.bodies.items) c.loop-body.invariant.text c.loop-body.invariant.fits (sym c.is_shut.ensures ∙ c.if-not-is_shut.false))
