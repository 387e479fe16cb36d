use Rattle.std.proofs.Common.{◌+◌, ◌∙◌, ap, arith, drop, get_or}
use Rattle.std.proofs.lemmas.List.{drop_all}
use Rattle.layer_builder.specs.Base.{count_of_distincts}
use Rattle.layer_builder.proofs.BaseFacts.{next_at_most, no_agg, one_more_place}
use Rattle.layer_builder.proofs.cells.distincts.Goals as goal

pub loop-agg-preserved : goal.loop-agg-preserved
loop-agg-preserved c =
    let aggs = c.args.aggs.now in
    let i = c.loop-agg.agg-index in
    let step = next_at_most (get_or aggs i no_agg).kind c.loop-agg.n in
    record {
      total = ap (λ n. n + count_of_distincts (drop (i + 1) aggs)) c.next_after-n.ensures ∙ one_more_place aggs i c.loop-agg.n (omega arith) ∙ c.loop-agg.invariant.total;
      few = omega (arith, step, c.next_after-n.ensures, c.loop-agg.invariant.few);
    }

pub returns : goal.returns
returns c = let none = ap count_of_distincts (drop_all c.loop-agg.agg-index c.args.aggs.now (omega arith)) in omega (arith, none, c.loop-agg.invariant.total)
