use Rattle.std.proofs.Common.{◌≡◌, ◌+◌, List, [], ◌∷◌, ◌++◌, length, replicate, refl, sym, ap, subst, ◌∙◌, arith}
use Rattle.std.proofs.lemmas.List.{length_push}
use Rattle.cuboid_planner.specs.declared.cuboid.Pick.{Pick}
use Rattle.cuboid_planner.specs.Sizes.{base_of}
use Rattle.cuboid_planner.specs.Kept.{HasCosts}
use Rattle.cuboid_planner.specs.Picks.{ArePicks}
use Rattle.cuboid_planner.proofs.TraceLemmas.{first_costs, first_low, picks_push}
use Rattle.cuboid_planner.proofs.plan.greedy.Goals as goal

pub loop-turn-init : goal.loop-turn-init
loop-turn-init c =
    let sizes = c.args.sizes.now in
    let none : c.new-picks.result.items ≡ [] = c.new-picks.ensures.items in
    record {
      each = λ i d lt. absurd (omega (arith, lt, ap length none));
      count = ap length none;
      costs = subst (λ (ps : List Pick). HasCosts sizes ps (replicate 4096 (base_of sizes).rows)) (sym none) (first_costs sizes 4096 (base_of sizes).rows c.requires c.requires.few refl);
      low = first_low sizes 4096 (base_of sizes).rows c.requires c.requires.few refl;
    }

pub returns-in_default : goal.returns-in_default
returns-in_default c =
    let inv = c.loop-turn.invariant in
    record {
      each = inv.each;
      few = omega (arith, inv.count, c.loop-turn-test.true);
      whole = λ _. c.in_default.ensures.none c.loop-turn.picks.items inv.costs;
    }

pub loop-turn-preserved : goal.loop-turn-preserved
loop-turn-preserved c =
    let inv = c.loop-turn.invariant in
    let sizes = c.args.sizes.now in
    let picks = c.loop-turn.picks.items in
    let p = c.in-Some.pick in
    let pushed : c.push.new.self.items ≡ picks ++ p ∷ [] = c.in_ok-push.ensures.items in
    record {
      each = subst (λ (ps : List Pick). ArePicks sizes ps) (sym pushed) (picks_push sizes picks p inv.each (c.in-Some.ensures.next picks inv.costs));
      count = ap length pushed ∙ length_push picks p ∙ ap (λ n. n + 1) inv.count;
      costs = subst (λ (ps : List Pick). HasCosts sizes ps c.next_pick.new.costs) (sym pushed) (c.in-Some.ensures.mended picks inv.costs);
      low = c.in-Some.ensures.low;
    }
