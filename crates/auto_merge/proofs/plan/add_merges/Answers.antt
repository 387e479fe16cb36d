use Rattle.std.proofs.Common.{◌≡◌, sym, ap, subst, ◌∙◌, List, [], ◌∷◌, ◌++◌, map, append_assoc}
use Rattle.std.proofs.lemmas.List.{map-append}
use Rattle.range_list.specs.Ranges.{Interval}
use Rattle.auto_merge.specs.declared.action.Action.{Action}
use Rattle.auto_merge.specs.declared.action.Action.TheVariants.{Merge}
use Rattle.auto_merge.specs.Chances.{HasNoChance}
use Rattle.auto_merge.proofs.MergeLemmas.{merge_made}
use Rattle.auto_merge.proofs.plan.add_merges.Goals as goal

-- one action more
listed : (old now : List Action) (merges : List Interval) (w : Interval) → now ≡ old ++ map Merge merges → now ++ Merge w ∷ [] ≡ old ++ map Merge (merges ++ w ∷ [])
listed old now merges w e = ap (λ l. l ++ Merge w ∷ []) e ∙ append_assoc old (map Merge merges) (Merge w ∷ []) ∙ ap (λ l. old ++ l) (sym (map-append Merge merges (w ∷ [])))

pub loop-run-preserved : goal.loop-run-preserved
loop-run-preserved c =
    let inv = c.loop-run.invariant in
    let w = c.whole_of-whole.result in
    let made = merge_made c.args.days.now c.args.ranges.items inv.merges c.loop-run.left.items c.as_slice.result.now c.as_slice-in-Some.result.now c.as_slice-in-Some-2.result.now c.in_ok-left.left.items c.in-Some.run'.first c.in-Some.run'.count w inv.apart inv.taken
    c.as_slice.ensures.value c.as_slice-in-Some.ensures.value c.as_slice-in-Some-2.ensures.value c.in-Some.ensures.next c.whole_of-whole.ensures c.in_ok-left.ensures in
    let pushed : c.push.new.self.items ≡ c.loop-run.actions.items ++ Merge w ∷ [] = c.in_ok-push.ensures.items in
    record {
      apart = made.0;
      merges = inv.merges ++ w ∷ [];
      taken = made.1;
      listed = pushed ∙ listed c.args.actions.now.items c.loop-run.actions.items inv.merges w inv.listed;
    }

pub returns : goal.returns
returns c =
    let inv = c.loop-run.invariant in
    (inv.merges, c.loop-run.left.items, inv.taken, subst (λ (x : List Interval). HasNoChance c.args.days.now x) c.as_slice.ensures.value c.in_default.ensures.none, inv.listed)
