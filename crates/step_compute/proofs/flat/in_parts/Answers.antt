use Rattle.std.proofs.Common.{◌≡◌, ◌+◌, ◌-◌, ◌++◌, ◌∙◌, ap, arith, drop, length, sym, take}
use Rattle.std.proofs.Math.Seq.{take-add}
use Rattle.flat_join.specs.Joins.{fact_of}
use Rattle.flat_join.specs.Prepared.{flat_rows_of}
use Rattle.flat_join.proofs.PreparedFacts.{flat_rows-append}
use Rattle.step_compute.proofs.WatchFacts.{looked_more}
use Rattle.step_compute.proofs.flat.in_parts.Goals as goal

pub loop-start-preserved : goal.loop-start-preserved
loop-start-preserved g c =
    let join = c.args.join.now in
    let facts = fact_of join.tables in
    let start = c.loop-start.start in
    let size = c.min.result in
    let same : start + size - start ≡ size = omega arith in
    let read : take (start + size - start) (drop start c.facts-facts.result.now) ≡ take size (drop start facts) = λ i. take (same i) (drop start (c.facts-facts.ensures i)) in
    let count = ap length c.facts-facts.ensures in
    record {
      within = omega (arith, c.min.ensures, count, c.loop-start.invariant.within);
      flat = c.in_ok-add_rows.ensures ∙ (λ i. c.loop-start.invariant.flat i ++ flat_rows_of join (read i))
          ∙ sym (flat_rows-append join (take start facts) (take size (drop start facts))) ∙ ap (flat_rows_of join) (sym (take-add start size facts));
      looked = looked_more g.W.Watch.seen g.W.Watch.there g.W.Watch.held g.W.Watch.place c.args.watch.now c.loop-start.watch c.look.new.watch c.loop-start.invariant.looked c.look.ensures.looked;
    }
