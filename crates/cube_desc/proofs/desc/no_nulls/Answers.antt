use Rattle.std.proofs.Common.{sym, ◌∙◌, zero-add}
use Rattle.std.proofs.lemmas.List.FromFn.{map-range_with_len_more}
use Rattle.cube_desc.specs.Forms.{no_null_at}
use Rattle.cube_desc.proofs.desc.no_nulls.Goals as goal

pub loop-column-preserved : goal.loop-column-preserved
loop-column-preserved c =
    c.in_ok-push.ensures.items
    ∙ (rw (c.no_null_at.ensures, c.loop-column.invariant) (sym (map-range_with_len_more (no_null_at c.args.parts.now c.args.table) 0 c.loop-column.column c.loop-column.column (zero-add c.loop-column.column))))
