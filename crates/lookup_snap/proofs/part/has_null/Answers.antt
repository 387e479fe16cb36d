use Rattle.std.proofs.Common.{◌≡◌, true, false, get_or, sym, ap, ◌∙◌, refl, arith}
use Rattle.std.proofs.lemmas.List.{take_all}
use Rattle.std.proofs.lemmas.List.Folds.{list_any_at, list_any_more}
use Rattle.table_reader.specs.Keys.{is_null}
use Rattle.lookup_snap.proofs.part.has_null.Goals as goal

pub returns-then-is_null : goal.returns-then-is_null
returns-then-is_null c =
    let here : is_null (get_or c.args.row.now c.loop-i.i c.get.result.now) ≡ true = ap is_null (sym c.get.ensures.value) ∙ sym c.is_null.ensures ∙ c.if-is_null.true in
    sym (list_any_at is_null c.args.row.now c.loop-i.i c.get.result.now (omega arith) here)

pub loop-i-preserved : goal.loop-i-preserved
loop-i-preserved c =
    let here : is_null (get_or c.args.row.now c.loop-i.i c.get.result.now) ≡ false = ap is_null (sym c.get.ensures.value) ∙ sym c.is_null.ensures ∙ c.if-is_null.false in
    rw (list_any_more is_null c.args.row.now c.loop-i.i c.get.result.now (omega arith), c.loop-i.invariant, here) refl

pub returns : goal.returns
returns c =
    let all = take_all c.loop-i.i c.args.row.now (omega arith) in
    sym (rw all at c.loop-i.invariant)
