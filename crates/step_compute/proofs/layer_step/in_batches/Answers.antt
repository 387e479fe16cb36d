use Rattle.std.proofs.Common.{◌≡◌, ◌+◌, ◌-◌, ◌++◌, ◌∙◌, ap, arith, drop, map, sym, take}
use Rattle.std.proofs.Math.Seq.{take-add}
use Rattle.std.proofs.lemmas.List.{map-append}
use Rattle.step_compute.specs.Wants.{made_of}
use Rattle.step_compute.proofs.WatchFacts.{looked_more}
use Rattle.step_compute.proofs.layer_step.in_batches.Goals as goal

pub loop-start-preserved : goal.loop-start-preserved
loop-start-preserved g c =
    let wants = c.args.wants.now in
    let made = made_of c.args.parents.now in
    let start = c.loop-start.start in
    let size = c.min.result in
    let same : start + size - start ≡ size = omega arith in
    let whole : take start wants ++ take (start + size - start) (drop start wants) ≡ take (start + size) wants = ap (λ k. take start wants ++ take k (drop start wants)) same ∙ sym (take-add start size wants) in
    let inv : c.loop-start.tables.items ≡ map made (take start wants) = c.loop-start.invariant.tables in
    record {
      within = omega (arith, c.min.ensures, c.loop-start.invariant.within);
      tables = c.in_ok-add_batch.ensures ∙ ap (λ l. l ++ map made (take (start + size - start) (drop start wants))) inv
          ∙ sym (map-append made (take start wants) (take (start + size - start) (drop start wants))) ∙ ap (map made) whole;
      looked = looked_more g.W.Watch.seen g.W.Watch.there g.W.Watch.held g.W.Watch.place c.args.watch.now c.loop-start.watch c.look.new.watch c.loop-start.invariant.looked c.look.ensures.looked;
    }
