use Rattle.std.proofs.Common.{◌≤◌, ◌+◌, ◌-◌, ◌++◌, drop, length, map}
use Rattle.cube_val.specs.OrderLaws.{val_cmp_total}
use Rattle.cube_val.proofs.OrderFacts.{val_cmp_exact}
use Rattle.aggregation.proofs.DistinctFacts.{IsMerging}
use Rattle.dim_dictionary.proofs.sorting.union.Given as goal

-- what is merged so far, and what is left of each list
abbrev pub invariant-loop-i : goal.invariant-loop-i
invariant-loop-i l = record {
  within_left : l.i ≤ length l.left;
  within_right : l.j ≤ length l.right;
  merging : IsMerging val_cmp_total val_cmp_exact (map (λ v. v.now) l.merged.items) (map (λ v. v.now) (drop l.i l.left)) (map (λ v. v.now) (drop l.j l.right)) (map (λ v. v.now) l.left ++ map (λ v. v.now) l.right);
}

abbrev pub decreases-loop-i : goal.decreases-loop-i
decreases-loop-i l = (length l.left - l.i) + (length l.right - l.j)
