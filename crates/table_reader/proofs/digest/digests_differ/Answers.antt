use Rattle.std.proofs.Common.{subst, nat_lt, arith, rules, tests}
use Rattle.std.specs.List.Sorted.{IsStrictlyIncreasing}
use Rattle.std.proofs.lemmas.Bool.Decides.{nat_tests}
use Rattle.std.proofs.lemmas.Fn.{always_returns_same}
use Rattle.table_reader.proofs.DigestFacts.{distinct_from_digests}
use Rattle.table_reader.proofs.digest.digests_differ.Goals as goal

pub returns : goal.returns
returns c places rows are differ =
    let adjacent = rw differ at (c.is_sorted_by.ensures.cases nat_lt (always_returns_same _ _ _ (λ a r g called. search (rules, tests)))) in
    let rising : IsStrictlyIncreasing c.deref.result.now = λ k low. grind (arith, nat_tests, adjacent k 0 low) in
    let moved = rw are at c.sort_unstable.ensures.permutation in
    distinct_from_digests places rows c.sort_unstable.new.self.items moved (subst IsStrictlyIncreasing c.deref.ensures.value rising)
