use Rattle.std.proofs.Common.{◌≡◌, ◌+◌, ◌++◌, ◌∷◌, List, [], take, sym, ap, subst, ◌∙◌, refl, Option, Some, arith, rules}
use Rattle.std.specs.Prelude.{if◌then◌else◌}
use Rattle.std.proofs.lemmas.List.{take_all, take_more}
use Rattle.cube_val.specs.declared.val.Val.{Val}
use Rattle.table_reader.specs.Keys.{AreWithin, key_of}
use Rattle.lookup_snap.specs.Snaps.{has_key, values_for}
use Rattle.lookup_snap.proofs.SnapFacts.{values_for-push}
use Rattle.lookup_snap.proofs.snap.LookupSnap.make.Goals as goal

pub loop-i-init : goal.loop-i-init
loop-i-init c = (c.new-rows.ensures.ordered, λ q. rw c.new-rows.ensures.empty refl)

pub add_row-requires : goal.add_row-requires
add_row-requires c = record {
  key = subst (λ (r : List Val). AreWithin c.args.key.now r) (sym c.row.ensures.value) (c.requires.key c.loop-i.i c.row.result.now (omega arith));
  cols = subst (λ (r : List Val). AreWithin c.args.cols.now r) (sym c.row.ensures.value) (c.requires.cols c.loop-i.i c.row.result.now (omega arith));
  ordered = c.loop-i.invariant.0;
}

pub loop-i-preserved : goal.loop-i-preserved
loop-i-preserved c =
    let table = c.args.table.now in
    let key = c.args.key.now in
    let cols = c.args.cols.now in
    let row = c.row.result.now in
    let i = c.loop-i.i in
    let more : take (i + 1) table ≡ take i table ++ row ∷ [] = take_more table i row (omega arith) ∙ ap (λ (r : List Val). take i table ++ r ∷ []) (sym c.row.ensures.value) in (
      c.in_ok-add_row.ensures.ordered,
      λ q. rw more
          (c.in_ok-add_row.ensures.adds q ∙ ap (λ (o : Option (List Val)). if has_key key row q then Some (key_of cols row) else o) (c.loop-i.invariant.1 q)
          ∙ sym (values_for-push key cols (take i table) row q)),
    )

pub returns-clause-rows : goal.returns-clause-rows
returns-clause-rows c =
    let e : c.in_ok-entries.entries.items ≡ c.loop-i.rows.entries = search rules in
    λ q. rw e (c.loop-i.invariant.1 q ∙ ap (λ (rows : List (List Val)). values_for c.args.key.now c.args.cols.now rows q) (take_all c.loop-i.i c.args.table.now (omega arith)))

pub returns-clause-rising : goal.returns-clause-rising
returns-clause-rising c =
    let e : c.in_ok-entries.entries.items ≡ c.loop-i.rows.entries = search rules in
    rw e c.loop-i.invariant.0
