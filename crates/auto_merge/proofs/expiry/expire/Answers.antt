use Rattle.std.proofs.Common.{◌≡◌, ◌≤◌, ◌+◌, ℕ, Bool, true, false, cond, not, sym, ap, subst, ◌∙◌, arith, List, [], ◌∷◌, ◌++◌, length, take, map, filter, append_assoc, append-nil, Some}
use Rattle.std.specs.Prelude.{slice_get}
use Rattle.std.proofs.lemmas.List.{take_all, map-append}
use Rattle.std.proofs.lemmas.List.Elements.{filter_more, All-filter}
use Rattle.std.proofs.lemmas.List.Kept.{AllPairs-filter}
use Rattle.std.proofs.lemmas.Option.{slice_get_within, get_or_from_slice_get}
use Rattle.range_list.specs.Ranges.{Interval, IsRange, IsBefore, IsApart}
use Rattle.auto_merge.specs.declared.action.Action.{Action}
use Rattle.auto_merge.specs.declared.action.Action.TheVariants.{Drop}
use Rattle.auto_merge.specs.Expiry.{is_expired}
use Rattle.auto_merge.proofs.expiry.expire.Goals as goal
use Rattle.auto_merge.proofs.expiry.expire.Goals.{then-is_expired+in_ok-push, else-is_expired+in_ok-push-2}

module _ (p : Interval → Bool) (rs : List Interval) (i : ℕ) (x : Interval) (at : slice_get rs i ≡ Some x) where
  more : filter p (take (i + 1) rs) ≡ filter p (take i rs) ++ cond (p x) (x ∷ []) []
  more = subst (λ (y : Interval). filter p (take (i + 1) rs) ≡ filter p (take i rs) ++ cond (p y) (y ∷ []) []) (get_or_from_slice_get rs i x x at) (filter_more p rs i x (slice_get_within rs i x at))

  passes : p x ≡ true → filter p (take (i + 1) rs) ≡ filter p (take i rs) ++ x ∷ []
  passes h = more ∙ ap (λ b. filter p (take i rs) ++ cond b (x ∷ []) []) h

  fails : p x ≡ false → filter p (take (i + 1) rs) ≡ filter p (take i rs)
  fails h = more ∙ ap (λ b. filter p (take i rs) ++ cond b (x ∷ []) []) h ∙ append-nil (filter p (take i rs))

  drops_pass : (old now : List Action) → now ≡ old ++ map Drop (filter p (take i rs)) → p x ≡ true → now ++ Drop x ∷ [] ≡ old ++ map Drop (filter p (take (i + 1) rs))
  drops_pass old now e h =
      ap (λ l. l ++ Drop x ∷ []) e ∙ append_assoc old (map Drop (filter p (take i rs))) (Drop x ∷ [])
      ∙ ap (λ l. old ++ l) (sym (map-append Drop (filter p (take i rs)) (x ∷ []))) ∙ ap (λ l. old ++ map Drop l) (sym (passes h))

  drops_fail : (old now : List Action) → now ≡ old ++ map Drop (filter p (take i rs)) → p x ≡ false → now ≡ old ++ map Drop (filter p (take (i + 1) rs))
  drops_fail old now e h = e ∙ ap (λ l. old ++ map Drop l) (sym (fails h))

kept_apart : (p : Interval → Bool) (rs ys : List Interval) (i : ℕ) → IsApart rs → ys ≡ filter p (take i rs) → length rs ≤ i → IsApart ys
kept_apart p rs ys i apart e all =
    let whole : ys ≡ filter p rs = e ∙ ap (filter p) (take_all i rs all) in
    subst IsApart (sym whole) (All-filter p IsRange rs apart.0, AllPairs-filter IsBefore p rs apart.1)

pub loop-i-preserved : goal.loop-i-preserved
loop-i-preserved c =
    let rs = c.args.ranges.now in
    let i = c.loop-i.i in
    let x = c.get-range.result in
    let p = is_expired c.args.retain c.last_end-last.result in
    let stays = λ (r : Interval). not (p r) in
    let at = c.get-range.ensures in
    elim c.if-is_expired.branch [
      | then-is_expired+in_ok-push w ↦
          let yes : p x ≡ true = sym c.is_expired.ensures ∙ w.if-is_expired.true in
          let pushed : c.if-is_expired.actions.items ≡ c.loop-i.actions.items ++ Drop x ∷ [] = cc w.in_ok-push.ensures.items in
          record {
            kept = ap (λ v. v.items) w.left-is ∙ c.loop-i.invariant.kept ∙ sym (fails stays rs i x at (ap not yes));
            dropped = pushed ∙ drops_pass p rs i x at c.args.actions.now.items c.loop-i.actions.items c.loop-i.invariant.dropped yes;
          }
      | else-is_expired+in_ok-push-2 w ↦
          let no : p x ≡ false = sym c.is_expired.ensures ∙ w.if-is_expired.false in
          let pushed : c.if-is_expired.left.items ≡ c.loop-i.left.items ++ x ∷ [] = cc w.in_ok-push-2.ensures.items in
          record {
            kept = pushed ∙ ap (λ l. l ++ x ∷ []) c.loop-i.invariant.kept ∙ sym (passes stays rs i x at (ap not no));
            dropped = ap (λ v. v.items) w.actions-is ∙ drops_fail p rs i x at c.args.actions.now.items c.loop-i.actions.items c.loop-i.invariant.dropped no;
          }
    ]

pub returns-clause-apart : goal.returns-clause-apart
returns-clause-apart c = kept_apart (λ r. not (is_expired c.args.retain c.last_end-last.result r)) c.args.ranges.now c.loop-i.left.items c.loop-i.i c.len-i-end.ensures.apart c.loop-i.invariant.kept (omega (arith, c.loop-i-test.false, c.len-i-end.ensures.count))
