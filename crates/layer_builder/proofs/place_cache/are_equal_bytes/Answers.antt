use Rattle.std.proofs.Common.{◌≡◌, ◌∷◌, ◌++◌, ◌∙◌, [], get_or, sym, take_all, arith}
use Rattle.std.proofs.lemmas.List.{take_more}
use Rattle.layer_builder.proofs.place_cache.are_equal_bytes.Goals as goal

pub loop-i-preserved : goal.loop-i-preserved
loop-i-preserved c =
    let a = c.args.a.now in
    let b = c.args.b.now in
    let i = c.loop-i.i in
    let same : get_or a i 0 ≡ get_or b i 0 = omega arith in
    take_more a i 0 (omega arith) ∙ (λ j. c.loop-i.invariant j ++ same j ∷ []) ∙ sym (take_more b i 0 (omega arith))

pub returns : goal.returns
returns c told =
    let a = c.args.a.now in
    let b = c.args.b.now in
    let i = c.loop-i.i in
    sym (take_all i a (omega arith)) ∙ c.loop-i.invariant ∙ take_all i b (omega arith)
