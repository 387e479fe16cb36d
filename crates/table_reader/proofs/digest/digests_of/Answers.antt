use Rattle.std.proofs.Common.{◌≡◌, ◌+◌, ◌∷◌, ◌++◌, ◌∙◌, [], List, ap, sym, take, arith}
use Rattle.std.proofs.lemmas.List.{take_all, take_more}
use Rattle.cube_val.specs.declared.val.Val.{Val}
use Rattle.table_reader.specs.Digests.{digests_of}
use Rattle.table_reader.proofs.DigestFacts.{digests_of-empty}
use Rattle.table_reader.proofs.digest.digests_of.Goals as goal

pub loop-i-init : goal.loop-i-init
loop-i-init c = c.new-digests.ensures.items ∙ sym (digests_of-empty c.args.places.now)

pub add_digest-requires : goal.add_digest-requires
add_digest-requires c = λ k d h. rw c.index-rows-i.is (c.requires c.loop-i.i c.index-rows-i.result c.loop-i-test.true k d h)

pub loop-i-preserved : goal.loop-i-preserved
loop-i-preserved c =
    let places = c.args.places.now in
    let rows = c.args.rows.now in
    let i = c.loop-i.i in
    let row = c.index-rows-i.result in
    let more : take (i + 1) rows ≡ take i rows ++ row ∷ [] = take_more rows i row c.loop-i-test.true ∙ ap (λ r. take i rows ++ r ∷ []) (sym c.index-rows-i.is) in
    c.in_ok-add_digest.ensures (take i rows) c.loop-i.invariant ∙ ap (λ (all : List (List Val)). digests_of places all) (sym more)

pub returns : goal.returns
returns c = c.loop-i.invariant ∙ ap (λ (all : List (List Val)). digests_of c.args.places.now all) (take_all c.loop-i.i c.args.rows.now (omega arith))
