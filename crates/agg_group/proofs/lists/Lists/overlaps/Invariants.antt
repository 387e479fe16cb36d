use Rattle.std.proofs.Common.{◌≡◌, ℕ, ◌<◌, false}
use Rattle.agg_group.specs.GroupLists.{rules}
use Rattle.agg_group.specs.Rules.{rule_lists}
use Rattle.agg_group.specs.Faults.{is_in_two}
use Rattle.agg_group.proofs.lists.Lists.overlaps.Given as goal

abbrev pub invariant-loop-d : goal.invariant-loop-d
invariant-loop-d l = (e : ℕ) → e < l.d → is_in_two (rule_lists (rules l.self)) e ≡ false
