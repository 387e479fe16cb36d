use Rattle.std.proofs.Common.{◌≡◌}
use Rattle.std.specs.Prelude.{slice_index}
use Rattle.agg_group.specs.Least.{least_place}
use Rattle.query_router.specs.Route.{serves}
use Rattle.query_router.proofs.least.route.Given as goal

abbrev pub invariant-loop-place : goal.invariant-loop-place
invariant-loop-place l = l.best ≡ least_place (serves l.masks l.needed) (λ k. slice_index l.lens k) l.place
