use Rattle.std.proofs.Common.{◌≡◌, ◌↔◌, [], ◌∷◌, ◌++◌, IsTrue, subst, rules}
use Rattle.cuboid_planner.specs.declared.cuboid.Pick.{Pick}
use Rattle.cuboid_planner.specs.Kept.{HasCosts}
use Rattle.cuboid_planner.proofs.TraceLemmas.{same_next}
use Rattle.cuboid_planner.proofs.trace.is_next.Goals as goal

pub returns-in-Some-clause-next : goal.returns-in-Some-clause-next
returns-in-Some-clause-next c = λ picks h.
    let same : IsTrue c.eq.result ↔ (c.in-Some.next ≡ c.args.pick.now) = search rules in
    let next = same_next c.args.sizes.now picks c.in-Some.next c.args.pick.now c.requires.sizes (c.in-Some.ensures.next picks h) in
    ((λ is. next.0 (same.0 is)), (λ k. same.1 (next.1 k)))

pub returns-in-Some-clause-mended : goal.returns-in-Some-clause-mended
returns-in-Some-clause-mended c = λ picks h is.
    let same : IsTrue c.eq.result ↔ (c.in-Some.next ≡ c.args.pick.now) = search rules in
    subst (λ (p : Pick). HasCosts c.args.sizes.now (picks ++ p ∷ []) c.next_pick.new.costs) (same.0 is) (c.in-Some.ensures.mended picks h)
