use Rattle.std.proofs.Common.{◌≡◌, ◌<◌, ◌++◌, ◌∷◌, List, [], get_or, length, take, sym, ap, ◌∙◌, arith}
use Rattle.std.proofs.lemmas.List.{get_or-map, get_or_default, length-map, take_all, take_more}
use Rattle.cube_val.specs.declared.val.Val.{Val}
use Rattle.cube_val.specs.declared.val.Val.TheVariants.{Null}
use Rattle.table_reader.specs.Keys.{key_of, val_at}
use Rattle.lookup_snap.proofs.part.part_of.Goals as goal

pub get-requires : goal.get-requires
get-requires c = c.requires c.loop-i.i 0 c.loop-i-test.true

pub loop-i-preserved : goal.loop-i-preserved
loop-i-preserved c =
    let places = c.args.places.now in
    let row = c.args.row.now in
    let i = c.loop-i.i in
    let value = c.get.result.now in
    let place = get_or places i 0 in
    let within : place < length row = c.requires i 0 c.loop-i-test.true in
    let is : get_or (key_of places row) i Null ≡ value = get_or-map (val_at row) places i 0 Null c.loop-i-test.true ∙ get_or_default row place Null value within ∙ sym c.get.ensures.value in
    let less : i < length (key_of places row) = rw (length-map places (val_at row)) c.loop-i-test.true in
    c.in_ok-add.ensures ∙ ap (λ (vals : List Val). vals ++ value ∷ []) c.loop-i.invariant
    ∙ sym (take_more (key_of places row) i Null less ∙ ap (λ (v : Val). take i (key_of places row) ++ v ∷ []) is)

pub returns : goal.returns
returns c =
    let size = length-map c.args.places.now (val_at c.args.row.now) in
    c.of.ensures ∙ c.loop-i.invariant ∙ take_all c.loop-i.i (key_of c.args.places.now c.args.row.now) (omega arith)
