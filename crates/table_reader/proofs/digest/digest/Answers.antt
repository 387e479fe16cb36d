use Rattle.std.proofs.Common.{◌≡◌, ◌<◌, List, get_or, length, sym, ap, ◌∙◌, fold, take, arith}
use Rattle.std.specs.Hash.FoldHasher as folding
use Rattle.std.specs.declared.hash.FoldHasher.{FoldHasher}
use Rattle.std.proofs.lemmas.List.{get_or-map, get_or_default, length-map, take_all}
use Rattle.std.proofs.lemmas.List.Sums.{fold_more}
use Rattle.cube_val.specs.declared.val.Val.{Val}
use Rattle.cube_val.specs.declared.val.Val.TheVariants.{Null}
use Rattle.table_reader.specs.Digests.{digest_of, fed_with}
use Rattle.table_reader.specs.Keys.{key_of, val_at}
use Rattle.table_reader.proofs.digest.digest.Goals as goal

pub loop-i-init : goal.loop-i-init
loop-i-init c = c.default-state.ensures

pub get-requires : goal.get-requires
get-requires c = c.requires c.loop-i.i 0 c.loop-i-test.true

pub loop-i-preserved : goal.loop-i-preserved
loop-i-preserved c =
    let places = c.args.places.now in
    let row = c.args.row.now in
    let i = c.loop-i.i in
    let value = c.get.result.now in
    let place = get_or places i 0 in
    let within : place < length row = c.requires i 0 c.loop-i-test.true in
    let less : i < length (key_of places row) = rw (length-map places (val_at row)) c.loop-i-test.true in
    let is : get_or (key_of places row) i Null ≡ value =
    get_or-map (val_at row) places i 0 Null c.loop-i-test.true ∙ get_or_default row place Null value within ∙ sym c.get.ensures.value in
    let more = fold_more fed_with folding.initial (key_of places row) i Null less in
    c.feed.ensures ∙ ap (λ (state : FoldHasher). fed_with state value) c.loop-i.invariant ∙ sym (more ∙ ap (fed_with (fold fed_with folding.initial (take i (key_of places row)))) is)

pub returns : goal.returns
unfolding digest_of
returns c =
    let size = length-map c.args.places.now (val_at c.args.row.now) in
    let all = take_all c.loop-i.i (key_of c.args.places.now c.args.row.now) (omega arith) in
    c.finish.ensures ∙ ap folding.finish (c.loop-i.invariant ∙ ap (λ (key : List Val). fold fed_with folding.initial key) all)
