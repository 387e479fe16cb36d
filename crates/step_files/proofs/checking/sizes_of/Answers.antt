use Rattle.std.proofs.Common.{◌≡◌, ◌+◌, ◌++◌, ◌∷◌, ◌∙◌, ◌<◌, [], ap, arith, length, sym, take}
use Rattle.std.specs.Prelude.{map}
use Rattle.std.proofs.lemmas.List.{map-append, take_more}
use Rattle.std.proofs.lemmas.Option.{get_or_from_slice_get}
use Rattle.step_files.proofs.checking.sizes_of.Goals as goal

pub loop-i-preserved : goal.loop-i-preserved
loop-i-preserved c =
    let dicts = c.args.dicts.now in
    let i = c.loop-i.i in
    let dict = c.get-dict.result.now in
    let inside : i < length dicts = omega (arith, c.loop-i-test.true, c.len-i-end.ensures) in
    let more : take (i + 1) dicts ≡ take i dicts ++ dict ∷ [] = take_more dicts i dict inside ∙ ap (λ d. take i dicts ++ d ∷ []) (get_or_from_slice_get dicts i dict dict c.get-dict.ensures) in
    let inv : c.loop-i.sizes.items ≡ map length (take i dicts) = c.loop-i.invariant in
    c.in_ok-push.ensures.items ∙ (λ t. inv t ++ c.len.ensures.len t ∷ []) ∙ sym (ap (map length) more ∙ map-append length (take i dicts) (dict ∷ []))
