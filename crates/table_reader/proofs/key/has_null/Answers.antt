use Rattle.std.proofs.Common.{◌≡◌, ◌<◌, true, false, get_or, length, sym, ap, ◌∙◌, refl, arith}
use Rattle.std.proofs.lemmas.List.{get_or-map, length-map, take_all}
use Rattle.std.proofs.lemmas.List.Folds.{list_any_at, list_any_more}
use Rattle.cube_val.specs.declared.val.Val.TheVariants.{Null}
use Rattle.table_reader.specs.Keys.{is_null, key_of, val_at}
use Rattle.table_reader.proofs.key.has_null.Goals as goal

pub val_at-requires : goal.val_at-requires
val_at-requires c = c.requires c.loop-i.i 0 c.loop-i-test.true

pub returns-then-is_null : goal.returns-then-is_null
returns-then-is_null c =
    let places = c.args.places.now in
    let row = c.args.row.now in
    let i = c.loop-i.i in
    let within : i < length (key_of places row) = rw (length-map places (val_at row)) c.loop-i-test.true in
    let here : is_null (get_or (key_of places row) i Null) ≡ true =
    ap is_null (get_or-map (val_at row) places i 0 Null c.loop-i-test.true ∙ sym c.val_at.ensures) ∙ sym c.is_null.ensures ∙ c.if-is_null.true in
    sym (list_any_at is_null (key_of places row) i Null within here)

pub loop-i-preserved : goal.loop-i-preserved
loop-i-preserved c =
    let places = c.args.places.now in
    let row = c.args.row.now in
    let i = c.loop-i.i in
    let within : i < length (key_of places row) = rw (length-map places (val_at row)) c.loop-i-test.true in
    let here : is_null (get_or (key_of places row) i Null) ≡ false =
    ap is_null (get_or-map (val_at row) places i 0 Null c.loop-i-test.true ∙ sym c.val_at.ensures) ∙ sym c.is_null.ensures ∙ c.if-is_null.false in
    rw (list_any_more is_null (key_of places row) i Null within, c.loop-i.invariant, here) refl

pub returns : goal.returns
returns c =
    let places = c.args.places.now in
    let row = c.args.row.now in
    let len = length-map places (val_at row) in
    let all = take_all c.loop-i.i (key_of places row) (omega arith) in
    sym (rw all at c.loop-i.invariant)
