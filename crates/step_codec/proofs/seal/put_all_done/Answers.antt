use Rattle.std.proofs.Common.{◌≡◌, ◌<◌, ◌+◌, ◌++◌, ◌∙◌, ℕ, List, ap, get_or, length, take}
use Rattle.std.specs.List.{flat_map}
use Rattle.std.proofs.lemmas.Option.{slice_get-get_or}
use Rattle.cube_fields.proofs.Puts.{put_at}
use Rattle.step_codec.specs.Seals.{done_text}
use Rattle.step_codec.proofs.seal.put_all_done.Goals as goal

put_next : {X : Type 0} (f : X → List ℕ) (xs : List X) (i : ℕ) (d : X) (front out new : List ℕ) → i < length xs → new ≡ out ++ f (get_or xs i d) → out ≡ front ++ flat_map f (take i xs) → new ≡ front ++ flat_map f (take (i + 1) xs)
put_next f xs i d front out new lt e before =
    e ∙ ap (λ (t : List ℕ). t ++ f (get_or xs i d)) before ∙ put_at f xs i (get_or xs i d) front (slice_get-get_or xs i d lt)

pub loop-step-preserved : goal.loop-step-preserved
loop-step-preserved c =
    put_next done_text c.args.done.now c.loop-step.step-index _ _ _ _ c.loop-step-test.true c.in_ok-put_done.ensures c.loop-step.invariant
