-- The order of groups is total.
use Rattle.std.proofs.Common.{Bool, true, false, List, [], ◌∷◌, refl, ℕ, rules, if◌then◌else◌}
use Rattle.std.specs.Cmp.{IsTotalOrder}
use Rattle.std.specs.Cmp.Rules.{comparing}
use Rattle.std.specs.Ordering.{flip_args, on}
use Rattle.std.proofs.lemmas.Cmp.{back_total, on_total, then_total}
use Rattle.cube_val.specs.OrderLaws.{row_cmp_total}
use Rattle.plain_answer.specs.declared.answer.OutVal.{OutVal}
use Rattle.plain_answer.specs.declared.ask.OrderKey.{OrderKey}
use Rattle.plain_answer.specs.declared.cond.Term.{Term}
use Rattle.plain_answer.specs.Answers.{by_keys, group_cmp, group_value}
use Rattle.plain_answer.specs.OutVals.{out_cmp}

out_cmp_total : IsTotalOrder out_cmp
out_cmp_total = search (comparing, rules)

turned_total : {X : Type 0} (falling : Bool) (f : X → OutVal) → IsTotalOrder (if falling then flip_args (on f out_cmp) else on f out_cmp)
turned_total true f = back_total (on_total f out_cmp_total)
turned_total false f = on_total f out_cmp_total

by_keys_total : {X : Type 0} (value : X → Term → OutVal) (ks : List OrderKey) → IsTotalOrder (by_keys value ks)
by_keys_total value [] = record { antisymm = λ x y. refl; trans = λ x y z h g. h; congr = λ x y z e. refl }
by_keys_total value (k ∷ ks) = then_total (turned_total k.falling (λ x. value x k.term)) (by_keys_total value ks)

pub group_cmp_total : (columns : List ℕ) (order : List OrderKey) → IsTotalOrder (group_cmp columns order)
group_cmp_total columns order = then_total (by_keys_total (group_value columns) order) (on_total (λ group. group.key) row_cmp_total)
