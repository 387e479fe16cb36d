use Rattle.std.proofs.Common.{◌≡◌, ◌++◌, take, map, not, filter}
use Rattle.auto_merge.specs.Expiry.{is_expired}
use Rattle.auto_merge.specs.declared.action.Action.TheVariants.{Drop}
use Rattle.auto_merge.proofs.expiry.expire.Given as goal

abbrev pub invariant-loop-i : goal.invariant-loop-i
invariant-loop-i l = record {
  kept : l.left.items ≡ filter (λ r. not (is_expired l.retain l.last r)) (take l.i l.ranges);
  dropped : l.actions.items ≡ l.initial.actions.items ++ map Drop (filter (is_expired l.retain l.last) (take l.i l.ranges));
}
