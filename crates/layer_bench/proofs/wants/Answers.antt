use Rattle.std.proofs.Common.{◌≡◌, ◌∷◌, ◌++◌, [], List, subst, sym}
use Rattle.std.specs.Prelude.{All}
use Rattle.std.proofs.lemmas.List.Elements.{All-push}
use Rattle.layer_builder.specs.Layers.{HasParent}
use Rattle.layer_builder.specs.declared.layers.Want.{Want}
use Rattle.layer_bench.proofs.wants.Goals as goal
use Rattle.layer_bench.proofs.wants.Goals.{then-count-dimensions+in-Some+in_ok-push, then-count-dimensions+in_default, else-count-dimensions}

pub loop-number-preserved : goal.loop-number-preserved
loop-number-preserved c =
    let Of : Want → Type 0 = HasParent c.args.parents.now in
    let had : List Want = c.loop-number.wants.items in
    let same : List Want → Type 0 = λ l. c.if-count-dimensions.wants.items ≡ l in
    elim c.if-count-dimensions.branch [
      | then-count-dimensions+in-Some+in_ok-push w ↦
          let want : Want = record { mask = record { 0 = c.loop-number.number }; parent = w.in-Some.parent } in
          let pushed : same (had ++ want ∷ []) = cc w.in_ok-push.ensures.items in
          subst (All Of) (sym pushed) (All-push Of had want c.loop-number.invariant w.in-Some.ensures)
      | then-count-dimensions+in_default w ↦ let kept : same had = cc in subst (All Of) (sym kept) c.loop-number.invariant
      | else-count-dimensions w ↦ let kept : same had = cc in subst (All Of) (sym kept) c.loop-number.invariant
    ]
