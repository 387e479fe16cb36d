use Rattle.std.proofs.Common.{◌≡◌, ◌+◌, ◌-◌, ◌++◌, ◌∙◌, [], List, ap, arith, drop, subst, sym, take, take_all}
use Rattle.std.proofs.Math.Seq.{take-add}
use Rattle.cube_val.specs.declared.val.Val.{Val}
use Rattle.layer_builder.specs.Pieces.{AreBases}
use Rattle.layer_builder.proofs.PieceFacts.{bases_none}
use Rattle.step_compute.proofs.WatchFacts.{looked_more, looked_none}
use Rattle.step_compute.proofs.base_step.in_parts.Goals as goal

pub loop-start-init : goal.loop-start-init
loop-start-init g c = record {
  within = omega arith;
  tables = subst (AreBases c.args.aggs.now c.args.dicts.now []) (sym c.new-tables.ensures.items) (bases_none c.args.aggs.now c.args.dicts.now);
  looked = looked_none g.W.Watch.seen g.W.Watch.there g.W.Watch.held g.W.Watch.place c.args.watch.now;
}

pub loop-start-preserved : goal.loop-start-preserved
loop-start-preserved g c =
    let rows = c.args.rows.now in
    let start = c.loop-start.start in
    let size = c.min.result in
    let same : start + size - start ≡ size = omega arith in
    let whole : take start rows ++ take (start + size - start) (drop start rows) ≡ take (start + size) rows = ap (λ k. take start rows ++ take k (drop start rows)) same ∙ sym (take-add start size rows) in
    record {
      within = omega (arith, c.min.ensures, c.loop-start.invariant.within);
      tables = subst (λ (l : List (List Val)). AreBases c.args.aggs.now c.args.dicts.now l c.add_pieces.new.tables.items) whole (c.in_ok-add_pieces.ensures (take start rows) c.loop-start.invariant.tables);
      looked = looked_more g.W.Watch.seen g.W.Watch.there g.W.Watch.held g.W.Watch.place c.args.watch.now c.loop-start.watch c.look.new.watch c.loop-start.invariant.looked c.look.ensures.looked;
    }

pub returns-clause-tables : goal.returns-clause-tables
returns-clause-tables g c =
    subst (λ (l : List (List Val)). AreBases c.args.aggs.now c.args.dicts.now l c.loop-start.tables.items) (take_all c.loop-start.start c.args.rows.now (omega arith)) c.loop-start.invariant.tables
