use Rattle.std.proofs.Common.{refl, [], ◌∷◌, ◌++◌}
use Rattle.cuboid_planner.specs.declared.cuboid.Pick.{Pick}
use Rattle.cuboid_planner.specs.Sizes.{size_at}
use Rattle.cuboid_planner.proofs.CostLemmas.{mended_costs}
use Rattle.cuboid_planner.proofs.PickLemmas.{best_is_next}
use Rattle.cuboid_planner.proofs.next.next_pick.Goals as goal

pub returns-clause-next : goal.returns-clause-next
returns-clause-next c = λ picks h.
    let sizes = c.args.sizes.now in
    let best = c.in_ok-best.best in
    let p : Pick = record { mask = (size_at sizes best.place).mask; rows = (size_at sizes best.place).rows; benefit = best.benefit; total = c.total.result } in
    let costs = mended_costs sizes picks p c.args.costs.now c.mend.new.costs h c.mend.ensures.mended in
    best_is_next sizes picks best p c.requires.sizes (c.in_ok-best.ensures.best picks h) refl refl refl (c.total.ensures (picks ++ p ∷ []) costs)
