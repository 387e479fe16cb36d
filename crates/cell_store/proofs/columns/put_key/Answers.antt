use Rattle.std.proofs.Common.{◌≡◌, ◌++◌, ◌∷◌, [], ◌∙◌, ap, arith, get_or, length, subst, sym}
use Rattle.std.proofs.lemmas.List.{get_or-map, get_or-set_other, length-set, map-set}
use Rattle.cell_store.specs.Columns.{HasRoom, lists_of}
use Rattle.cell_store.proofs.ColumnLemmas.{Column, length-lists_of, put-set}
use Rattle.cell_store.proofs.columns.put_key.Goals as goal

pub loop-d-preserved : goal.loop-d-preserved
loop-d-preserved c =
    let A = lists_of c.args.columns.now in
    let B = c.args.key.now in
    let V = c.loop-d.columns in
    let k = c.loop-d.d in
    let v = c.index-columns-d.result in
    let new = c.push.new.self in
    let all = length-lists_of c.args.columns.now in
    let size : length V ≡ length c.args.columns.now = c.loop-d.auto.columns in
    let was : (get_or V k v).items ≡ get_or (lists_of V) k [] = sym (get_or-map (λ (w : Column). w.items) V k v [] (omega arith)) in
    let made : new.items ≡ get_or (lists_of V) k [] ++ get_or B k 0 ∷ [] = (rw c.unwrap.ensures at c.push.ensures.items) ∙ ap (λ l. l ++ get_or B k 0 ∷ []) was in
    record {
      lists = map-set (λ (w : Column). w.items) V k new ∙ put-set A B (lists_of V) k (omega arith) (omega arith) c.loop-d.invariant.lists new.items made;
      room = λ j d low high.
          subst HasRoom (sym (get_or-set_other V k j new d (omega arith))) (c.loop-d.invariant.room j d (omega arith) (omega (arith, length-set V k new)));
    }
