use Rattle.std.proofs.Common.{◌≡◌, ◌<◌, true, List, length, take, refl, sym, subst, ◌∙◌, arith, rules}
use Rattle.std.proofs.lemmas.Bool.{false≢true}
use Rattle.std.proofs.lemmas.List.{take_more}
use Rattle.cuboid_planner.specs.declared.cuboid.Pick.{Pick}
use Rattle.cuboid_planner.specs.Sizes.{base_of}
use Rattle.cuboid_planner.specs.Kept.{HasCosts}
use Rattle.cuboid_planner.proofs.TraceLemmas.{first_costs, first_low, trace_more, wrong_next}
use Rattle.cuboid_planner.proofs.trace.check_trace.Goals as goal

abbrev nothing : Pick
nothing = record { mask = record { 0 = 0 }; rows = 0; benefit = 0; total = 0 }

pub loop-place-init : goal.loop-place-init
loop-place-init c =
    let sizes = c.args.sizes.now in
    record {
      low = first_low sizes 4096 (base_of sizes).rows c.requires c.requires.few refl;
      costs = first_costs sizes 4096 (base_of sizes).rows c.requires c.requires.few refl;
      trace = ((λ i d lt. absurd (omega (arith, lt))), omega arith);
    }

pub returns-then-not-is_next-clause-wrong : goal.returns-then-not-is_next-clause-wrong
returns-then-not-is_next-clause-wrong c =
    let picks = c.args.picks.now in
    let place = c.loop-place.place in
    wrong_next c.args.sizes.now picks place nothing (omega (arith, c.loop-place-test.true)) c.loop-place.invariant.trace
    (λ next. false≢true (sym c.if-not-is_next.true ∙ (c.is_next.ensures.next (take place picks) c.loop-place.invariant.costs).1 next))

pub loop-place-preserved : goal.loop-place-preserved
loop-place-preserved c =
    let sizes = c.args.sizes.now in
    let picks = c.args.picks.now in
    let place = c.loop-place.place in
    let inside : place < length picks = omega (arith, c.loop-place-test.true) in
    let is : c.is_next.result ≡ true = search rules in
    record {
      low = c.is_next.ensures.low;
      costs = subst (λ (ps : List Pick). HasCosts sizes ps c.is_next.new.costs) (sym (take_more picks place nothing inside)) (c.is_next.ensures.mended (take place picks) c.loop-place.invariant.costs is);
      trace = trace_more sizes picks place nothing inside c.if-place-eq-MOST_PICKS.false c.loop-place.invariant.trace ((c.is_next.ensures.next (take place picks) c.loop-place.invariant.costs).0 is);
    }
