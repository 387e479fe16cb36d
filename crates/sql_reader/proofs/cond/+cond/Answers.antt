use Rattle.std.proofs.Common.{sym}
use Rattle.sql_tokens.specs.declared.kind.Kind.TheVariants as k
use Rattle.sql_reader.specs.declared.tree.SqlCond.TheVariants as conds
use Rattle.sql_reader.proofs.Exact.{of_after}
use Rattle.sql_reader.proofs.Levels.{exact_neg, exact_conj}
use Rattle.sql_reader.proofs.Loops.{goes_on_after, shorter, told}
use Rattle.sql_reader.proofs.cond.+cond.Goals as goal

pub conj-ands-smaller : goal.conj-ands-smaller
conj-ands-smaller t c = shorter (of_after k.And (exact_neg c.args.depth)) c.ands.rest.now _ _ (told (λ x. (x.0, x.1.now)) c.and_neg-next.result _ _ c.and_neg-next.ensures c.in_ok-left.ensures.1)

pub conj-ands-preserved : goal.conj-ands-preserved
conj-ands-preserved t c = rw (sym c.in_ok-left.ensures.0) (goes_on_after (exact_neg c.args.depth) k.And conds.And c.ands.all c.ands.rest.now _ _ _ (sym c.ands-test.ensures) (told (λ x. (x.0, x.1.now)) c.and_neg-next.result _ _ c.and_neg-next.ensures c.in_ok-left.ensures.1) c.ands.invariant)

pub disj-ors-smaller : goal.disj-ors-smaller
disj-ors-smaller t c = shorter (of_after k.Or (exact_conj c.args.depth)) c.ors.rest.now _ _ (told (λ x. (x.0, x.1.now)) c.or_conj-next.result _ _ c.or_conj-next.ensures c.in_ok-left.ensures.1)

pub disj-ors-preserved : goal.disj-ors-preserved
disj-ors-preserved t c = rw (sym c.in_ok-left.ensures.0) (goes_on_after (exact_conj c.args.depth) k.Or conds.Or c.ors.all c.ors.rest.now _ _ _ (sym c.ors-test.ensures) (told (λ x. (x.0, x.1.now)) c.or_conj-next.result _ _ c.or_conj-next.ensures c.in_ok-left.ensures.1) c.ors.invariant)
