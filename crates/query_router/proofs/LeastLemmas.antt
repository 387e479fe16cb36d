-- The place that `least_cuboid` gives.
use Rattle.std.proofs.Common.{◌≡◌, ℕ, ◌<◌, ◌≤◌, List, length, Option, Some, None, IsSome, refl, sym, ap, ◌∙◌, inl, inr, arith}
use Rattle.std.specs.Prelude.{slice_index}
use Rattle.std.proofs.lemmas.Bool.{cases_eq, cases_lt, false≢true}
use Rattle.agg_group.specs.declared.mask.Mask.{Mask}
use Rattle.agg_group.specs.Mask.{mask_at, IsRising}
use Rattle.agg_group.proofs.LeastLemmas.{least_is, none_passes}
use Rattle.query_router.specs.Route.{serves, least_cuboid, IsServed, IsLeastCuboid}

pub least_says : (masks : List Mask) (lens : List ℕ) (needed : Mask) (p : ℕ) → IsRising masks → least_cuboid masks lens needed ≡ Some p → IsLeastCuboid masks lens needed p
least_says masks lens needed p rising e =
    let w = least_is (serves masks needed) (λ k. slice_index lens k) (length masks) p e in
    record {
      inside = w.inside;
      serving = w.passing;
      shortest = w.least;
      tie = λ k low at same.
          elim (cases_lt k p) [
            | inl before ↦ absurd (omega (arith, w.first k before at))
            | inr after ↦
                elim (cases_eq k p) [
                  | inl here ↦ omega (arith, ap (λ x. (mask_at masks x).0) here)
                  | inr past ↦ omega (arith, rising p k (record { 0 = 0 }) (omega arith) low)
                ]
          ];
    }

pub is_found : (masks : List Mask) (lens : List ℕ) (needed : Mask) (o : Option ℕ) → IsServed masks needed → o ≡ least_cuboid masks lens needed → IsSome o
is_found masks lens needed None one e =
    absurd (false≢true (sym (none_passes (serves masks needed) (λ k. slice_index lens k) (length masks) (sym e) one.0 one.1) ∙ one.2))
is_found masks lens needed (Some p) one e = refl
