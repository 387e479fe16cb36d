use Rattle.std.proofs.Common.{◌∙◌, arith, below_more, get_or}
use Rattle.std.proofs.lemmas.List.{ext_get_or, get_or-set_other, get_or-set_same, length-map}
use Rattle.cell_store.specs.Columns.{key_at, lists_of}
use Rattle.cell_store.proofs.ColumnLemmas.{length-lists_of, number_of}
use Rattle.cell_store.proofs.columns.read_key.Goals as goal

pub loop-d-preserved : goal.loop-d-preserved
loop-d-preserved c =
    let K = c.loop-d.key in
    let d = c.loop-d.d in
    below_more _ _
    (λ k h. get_or-set_other K d k c.id_at.result 0 (omega arith) ∙ c.loop-d.invariant k h)
    (get_or-set_same K d c.id_at.result 0 (omega arith) ∙ c.id_at.ensures ∙ number_of c.args.columns.now c.args.place d c.index-columns-d.result (omega arith) c.index-columns-d.is)

pub returns : goal.returns
returns c =
    let lists = lists_of c.args.columns.now in
    let all = length-lists_of c.args.columns.now in
    let size = length-map lists (λ column. get_or column c.args.place 0) in
    ext_get_or 0 c.loop-d.key (key_at lists c.args.place) (omega arith) (λ k lt. c.loop-d.invariant k (omega arith))
