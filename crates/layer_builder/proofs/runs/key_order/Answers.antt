use Rattle.std.proofs.Common.{◌≡◌, get_or, length, min, sym, ◌∙◌, arith}
use Rattle.std.specs.declared.cmp.Ordering.TheVariants.{Less, Equal, Greater}
use Rattle.std.specs.Ordering.{nat_cmp}
use Rattle.layer_builder.proofs.ValueFacts.{order_end, order_step}
use Rattle.layer_builder.proofs.runs.key_order.Goals as goal

pub returns-in-Less : goal.returns-in-Less
returns-in-Less c =
    let here : nat_cmp (get_or c.args.key.now c.loop-i.i 0) (get_or c.args.other.now c.loop-i.i 0) ≡ Less = cc in
    sym (sym c.loop-i.invariant ∙ order_step c.args.key.now c.args.other.now c.loop-i.i Less (omega arith) (omega arith) here)

pub returns-in-Greater : goal.returns-in-Greater
returns-in-Greater c =
    let here : nat_cmp (get_or c.args.key.now c.loop-i.i 0) (get_or c.args.other.now c.loop-i.i 0) ≡ Greater = cc in
    sym (sym c.loop-i.invariant ∙ order_step c.args.key.now c.args.other.now c.loop-i.i Greater (omega arith) (omega arith) here)

pub loop-i-preserved : goal.loop-i-preserved
loop-i-preserved c =
    let here : nat_cmp (get_or c.args.key.now c.loop-i.i 0) (get_or c.args.other.now c.loop-i.i 0) ≡ Equal = cc in
    sym (order_step c.args.key.now c.args.other.now c.loop-i.i Equal (omega arith) (omega arith) here) ∙ c.loop-i.invariant

pub returns : goal.returns
returns c =
    let ended : c.loop-i.i ≡ min (length c.args.key.now) (length c.args.other.now) = omega arith in
    c.cmp-2.ensures ∙ sym (order_end c.args.key.now c.args.other.now c.loop-i.i ended) ∙ c.loop-i.invariant
