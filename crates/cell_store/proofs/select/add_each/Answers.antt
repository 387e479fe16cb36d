use Rattle.std.proofs.Common.{◌≡◌, ◌++◌, ◌∷◌, [], ◌∙◌, Bool, true, false, ℕ, ap, append-nil, cond, sym}
use Rattle.std.specs.List.{filter, range_with_len}
use Rattle.cell_store.specs.Columns.{key_at, lists_of}
use Rattle.cell_store.specs.Selects.{passes}
use Rattle.cell_store.proofs.SelectLemmas.{filter-range_more}
use Rattle.cell_store.proofs.select.add_each.Goals as goal
use Rattle.cell_store.proofs.select.add_each.Goals.{then-passes+in_ok-push, else-passes}

pub loop-place-preserved : goal.loop-place-preserved
loop-place-preserved c =
    let p : ℕ → Bool = λ place. passes c.args.tests.now (key_at (lists_of c.args.columns.now) place) in
    let n = c.loop-place.place in
    let had = filter p (range_with_len 0 n) in
    elim c.if-passes.branch [
      | then-passes+in_ok-push w ↦
          let here : p n ≡ true = sym c.passes.ensures ∙ w.if-passes.true in
          let pushed : c.if-passes.places.items ≡ c.loop-place.places.items ++ n ∷ [] = cc w.in_ok-push.ensures.items in
          pushed ∙ ap (λ l. l ++ n ∷ []) c.loop-place.invariant ∙ sym (filter-range_more p n ∙ ap (λ b. had ++ cond b (n ∷ []) []) here)
      | else-passes w ↦
          let here : p n ≡ false = sym c.passes.ensures ∙ w.if-passes.false in
          let same : c.if-passes.places.items ≡ c.loop-place.places.items = cc in
          same ∙ c.loop-place.invariant ∙ sym (filter-range_more p n ∙ ap (λ b. had ++ cond b (n ∷ []) []) here ∙ append-nil had)
    ]
