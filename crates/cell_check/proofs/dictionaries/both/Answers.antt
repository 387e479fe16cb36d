use Rattle.std.proofs.Common.{◌≤◌, ◌<◌, ◌^◌, ◌++◌, ◌∷◌, [], List, arith, length, length-append, subst, sym}
use Rattle.cube_val.specs.declared.val.Val.{Val}
use Rattle.cube_val.specs.OrderLaws.{val_cmp_total}
use Rattle.cube_val.proofs.OrderFacts.{val_cmp_exact}
use Rattle.aggregation.proofs.DistinctFacts.{length-distinct}
use Rattle.dim_dictionary.specs.Dictionaries.{merged_dictionary}
use Rattle.cell_check.proofs.dictionaries.both.Goals as goal

two_short : (a b : List Val) → length a ≤ 1000 → length b ≤ 1000 → length (merged_dictionary (a ∷ b ∷ [])) < 2 ^ 32
two_short a b short_a short_b = omega (arith, length-distinct val_cmp_total val_cmp_exact (a ++ (b ++ [])), length-append a (b ++ []), length-append b [])

pub returns : goal.returns
returns c =
    subst (λ (parts : List (List Val)). length (merged_dictionary parts) < 2 ^ 32) (sym c.in_ok-parts.ensures)
    (two_short _ _ c.in_ok-first.ensures c.in_ok-second.ensures)
