-- The next choice, and the plan that it gives.
use Rattle.std.proofs.Common.{◌≡◌, ℕ, inl, inr, ap, ◌∙◌, arith, List, [], ◌∷◌, ◌++◌, length}
use Rattle.std.proofs.lemmas.Bool.{cases_eq, cases_lt}
use Rattle.agg_group.specs.declared.mask.Mask.{Mask}
use Rattle.cuboid_planner.specs.declared.cuboid.Size.{Size}
use Rattle.cuboid_planner.specs.declared.cuboid.Pick.{Pick}
use Rattle.cuboid_planner.specs.declared.next.Best.{Best}
use Rattle.cuboid_planner.specs.Sizes.{size_at, AreSizes}
use Rattle.cuboid_planner.specs.Costs.{benefit, total}
use Rattle.cuboid_planner.specs.Best.{IsBest}
use Rattle.cuboid_planner.specs.Picks.{IsNextPick, HasNoPick}

-- the cuboid that saves the most, and of several such the first, is the next choice: masks rise
pub best_is_next : (sizes : List Size) (picks : List Pick) (b : Best) (p : Pick) → AreSizes sizes → IsBest (λ k. benefit sizes picks (size_at sizes k)) (length sizes) b → p.mask ≡ (size_at sizes b.place).mask → p.rows ≡ (size_at sizes b.place).rows → p.benefit ≡ b.benefit → p.total ≡ total sizes (picks ++ p ∷ []) → IsNextPick sizes picks p
best_is_next sizes picks b p sizes_are best mask rows saved all = record {
  place = b.place;
  inside = best.inside;
  mask = mask;
  rows = rows;
  saved = saved ∙ best.value;
  some = omega (arith, best.some, saved);
  greatest = λ k k_in. omega (arith, best.greatest k k_in, saved);
  least = λ k k_in same. elim (cases_lt k b.place) [
    | inl before ↦ absurd (omega (arith, best.first k before, same, saved))
    | inr after ↦ elim (cases_eq k b.place) [
      | inl here ↦ omega (arith, ap (λ (m : Mask). m.0) mask, ap (λ (n : ℕ). (size_at sizes n).mask.0) here)
      | inr past ↦ omega (arith, ap (λ (m : Mask). m.0) mask, sizes_are.rising b.place k (record { mask = record { 0 = 0 }; rows = 0 }) (omega arith) k_in)
    ]
  ];
  all = all;
}

-- where there is a next choice, something is saved
pub next_saves : (sizes : List Size) (picks : List Pick) (p : Pick) → HasNoPick sizes picks → ¬ (IsNextPick sizes picks p)
next_saves sizes picks p none next = omega (arith, next.some, next.saved, none next.place next.inside)
