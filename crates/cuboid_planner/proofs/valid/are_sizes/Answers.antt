use Rattle.std.proofs.Common.{◌<◌, length, refl, arith, rules}
use Rattle.cuboid_planner.proofs.ValidLemmas.{all_in_place}
use Rattle.cuboid_planner.proofs.valid.are_sizes.Goals as goal

pub returns : goal.returns
returns c =
    let some : 0 < length c.args.sizes.now = search rules in (
      (λ _. all_in_place c.args.sizes.now (λ k k_in. c.loop-place.invariant k (omega (arith, k_in, c.loop-place-test.false))) some (omega (arith, c.if-sizes-gt-MOST_CUBOIDS.false))),
      (λ _. refl),
    )
