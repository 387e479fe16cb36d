use Rattle.std.proofs.Common.{◌≡◌, ◌+◌, ◌++◌, ◌∷◌, [], ◌∙◌, Bool, true, false, ℕ, ap, append-nil, arith, cond, sym}
use Rattle.std.specs.List.{filter, range_with_len}
use Rattle.cell_store.specs.Columns.{key_at, lists_of}
use Rattle.cell_store.specs.Selects.{passes}
use Rattle.cell_store.proofs.LaneLemmas.{lane_tells, none_set}
use Rattle.cell_store.proofs.SelectLemmas.{filter-range_more}
use Rattle.cell_store.proofs.lanes.add_lanes.Goals as goal
use Rattle.cell_store.proofs.lanes.add_lanes.Goals.{then-is_set+in_ok-push, else-is_set}

pub returns-then-lanes-eq0 : goal.returns-then-lanes-eq0
returns-then-lanes-eq0 c =
    let p : ℕ → Bool = λ place. passes c.args.tests.now (key_at (lists_of c.args.columns.now) place) in
    c.requires.places ∙ sym (none_set p c.args.at c.lanes_passing-lanes.result c.lanes_passing-lanes.ensures c.if-lanes-eq0.true)

pub loop-lane-preserved : goal.loop-lane-preserved
loop-lane-preserved c =
    let p : ℕ → Bool = λ place. passes c.args.tests.now (key_at (lists_of c.args.columns.now) place) in
    let n = c.args.at + c.loop-lane.lane in
    let next : c.args.at + (c.loop-lane.lane + 1) ≡ n + 1 = omega arith in
    let had = filter p (range_with_len 0 n) in
    let tells = lane_tells p c.args.at c.lanes_passing-lanes.result c.loop-lane.lane c.lanes_passing-lanes.ensures c.loop-lane-test.true in
    let more : (b : Bool) → p n ≡ b → had ++ cond b (n ∷ []) [] ≡ filter p (range_with_len 0 (c.args.at + (c.loop-lane.lane + 1))) =
    λ b e. sym (ap (λ m. filter p (range_with_len 0 m)) next ∙ filter-range_more p n ∙ ap (λ b. had ++ cond b (n ∷ []) []) e) in
    elim c.if-is_set.branch [
      | then-is_set+in_ok-push w ↦
          let here : p n ≡ true = sym tells ∙ sym c.is_set.ensures ∙ w.if-is_set.true in
          let pushed : c.if-is_set.places.items ≡ c.loop-lane.places.items ++ n ∷ [] = cc w.in_ok-push.ensures.items in
          pushed ∙ ap (λ l. l ++ n ∷ []) c.loop-lane.invariant ∙ more true here
      | else-is_set w ↦
          let here : p n ≡ false = sym tells ∙ sym c.is_set.ensures ∙ w.if-is_set.false in
          let same : c.if-is_set.places.items ≡ c.loop-lane.places.items = cc in
          same ∙ c.loop-lane.invariant ∙ sym (append-nil had) ∙ more false here
    ]
