use Rattle.std.proofs.Common.{◌∙◌, ◌++◌, ◌∷◌, [], ℕ, Bool, List, ap, append_assoc, sym}
use Rattle.std.specs.Prelude.{filter, map, slice_get}
use Rattle.std.specs.List.{range_with_len}
use Rattle.cube_fields.specs.declared.forms.Extremes.{Extremes}
use Rattle.step_files.specs.Cubes.{are_extremes, extremes_at}
use Rattle.step_codec.proofs.LayerFacts.{place_kept, place_left}
use Rattle.step_files.proofs.measures.push_extremes.Goals as goal
use Rattle.step_files.proofs.measures.push_extremes.Goals.{then-are_extremes+in_ok-push, else-are_extremes}

pub loop-j-preserved : goal.loop-j-preserved
loop-j-preserved c =
    let test : ℕ → Bool = λ j. are_extremes (slice_get c.args.measures.now c.args.i) (slice_get c.args.measures.now j) in
    let old : List Extremes = c.args.found.now.items in
    let so_far : List Extremes = map (extremes_at c.args.i) (filter test (range_with_len 0 c.loop-j.j)) in
    let one : List Extremes = extremes_at c.args.i c.loop-j.j ∷ [] in
    elim c.if-are_extremes.branch [
      | then-are_extremes+in_ok-push w ↦
          (let more = place_kept (extremes_at c.args.i) test c.loop-j.j (sym c.are_extremes.ensures ∙ w.if-are_extremes.true) in
          (λ k. (w.found-is k).items) ∙ w.in_ok-push.ensures.items ∙ ap (λ (l : List Extremes). l ++ one) c.loop-j.invariant ∙ append_assoc old so_far one ∙ ap (λ (l : List Extremes). old ++ l) (sym more))
      | else-are_extremes w ↦
          (let more = place_left (extremes_at c.args.i) test c.loop-j.j (sym c.are_extremes.ensures ∙ w.if-are_extremes.false) in
          (λ k. (w.found-is k).items) ∙ c.loop-j.invariant ∙ ap (λ (l : List Extremes). old ++ l) (sym more))
    ]
