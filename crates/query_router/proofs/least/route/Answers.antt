use Rattle.std.proofs.Common.{◌≡◌, ◌<◌, length, Some, sym, ap, ◌∙◌, arith}
use Rattle.std.specs.Prelude.{slice_index}
use Rattle.agg_group.specs.Least.{better, least_place}
use Rattle.agg_group.proofs.LeastLemmas.{least_is, least_more}
use Rattle.query_router.specs.Route.{serves, least_cuboid}
use Rattle.query_router.proofs.LeastLemmas.{least_says, is_found}
use Rattle.query_router.proofs.least.route.Goals as goal

pub shorter-best-requires-clause-best : goal.shorter-best-requires-clause-best
shorter-best-requires-clause-best c = λ b e.
    let equal = c.requires.equal in
    let w = least_is (serves c.args.masks.now c.args.needed) (λ k. slice_index c.args.lens.now k) c.loop-place.place b (sym c.loop-place.invariant ∙ e) in
    omega (arith, w.inside)

pub loop-place-preserved : goal.loop-place-preserved
loop-place-preserved c =
    let passes = serves c.args.masks.now c.args.needed in
    let size = λ (k : _). slice_index c.args.lens.now k in
    c.shorter-best.ensures
    ∙ ap (λ p. better size c.loop-place.place p c.loop-place.best) c.serves-serves.ensures
    ∙ ap (λ o. better size c.loop-place.place (passes c.loop-place.place) o) c.loop-place.invariant
    ∙ sym (least_more passes size c.loop-place.place)

pub unwrap-requires : goal.unwrap-requires
unwrap-requires c =
    let end : c.loop-place.place ≡ length c.args.masks.now = omega arith in
    is_found c.args.masks.now c.args.lens.now c.args.needed c.loop-place.best c.requires.served
    (c.loop-place.invariant ∙ ap (least_place (serves c.args.masks.now c.args.needed) (λ k. slice_index c.args.lens.now k)) end)

pub returns : goal.returns
returns c =
    let end : c.loop-place.place ≡ length c.args.masks.now = omega arith in
    let value : least_cuboid c.args.masks.now c.args.lens.now c.args.needed ≡ Some c.unwrap.result =
    sym (c.loop-place.invariant ∙ ap (least_place (serves c.args.masks.now c.args.needed) (λ k. slice_index c.args.lens.now k)) end)
    ∙ c.unwrap.ensures in
    record { value = value; least = least_says c.args.masks.now c.args.lens.now c.args.needed c.unwrap.result c.requires.rising value }
