use Rattle.std.proofs.Common.{◌≡◌, get_or, length, min, sym, ◌∙◌, arith}
use Rattle.std.specs.declared.cmp.Ordering.TheVariants.{Less, Equal, Greater}
use Rattle.cube_val.specs.Order.{val_cmp}
use Rattle.table_reader.specs.Keys.{val_at}
use Rattle.table_reader.proofs.KeyFacts.{keys_end, keys_step}
use Rattle.table_reader.proofs.key.compare.Goals as goal

pub val_at-requires : goal.val_at-requires
val_at-requires c = c.requires.within c.loop-i.i 0 (omega arith)

pub val_at-requires-in-loop-i : goal.val_at-requires-in-loop-i
val_at-requires-in-loop-i c = c.requires.others_within c.loop-i.i 0 (omega arith)

pub returns-in-Less : goal.returns-in-Less
returns-in-Less c =
    let here : val_cmp (val_at c.args.row.now (get_or c.args.places.now c.loop-i.i 0)) (val_at c.args.other.now (get_or c.args.others.now c.loop-i.i 0)) ≡ Less = cc in
    sym (sym c.loop-i.invariant ∙ keys_step c.args.places.now c.args.row.now c.args.others.now c.args.other.now c.loop-i.i Less (omega arith) (omega arith) here)

pub returns-in-Greater : goal.returns-in-Greater
returns-in-Greater c =
    let here : val_cmp (val_at c.args.row.now (get_or c.args.places.now c.loop-i.i 0)) (val_at c.args.other.now (get_or c.args.others.now c.loop-i.i 0)) ≡ Greater = cc in
    sym (sym c.loop-i.invariant ∙ keys_step c.args.places.now c.args.row.now c.args.others.now c.args.other.now c.loop-i.i Greater (omega arith) (omega arith) here)

pub loop-i-preserved : goal.loop-i-preserved
loop-i-preserved c =
    let here : val_cmp (val_at c.args.row.now (get_or c.args.places.now c.loop-i.i 0)) (val_at c.args.other.now (get_or c.args.others.now c.loop-i.i 0)) ≡ Equal = cc in
    sym (keys_step c.args.places.now c.args.row.now c.args.others.now c.args.other.now c.loop-i.i Equal (omega arith) (omega arith) here) ∙ c.loop-i.invariant

pub returns : goal.returns
returns c =
    let ended : c.loop-i.i ≡ min (length c.args.places.now) (length c.args.others.now) = omega arith in
    c.cmp-2.ensures ∙ sym (keys_end c.args.places.now c.args.row.now c.args.others.now c.args.other.now c.loop-i.i ended) ∙ c.loop-i.invariant
