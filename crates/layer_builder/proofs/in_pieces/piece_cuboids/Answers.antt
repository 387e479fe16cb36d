use Rattle.std.proofs.Common.{◌≡◌, ◌≤◌, ◌∙◌, List, ap, arith, get_or, length}
use Rattle.std.specs.Borrow.{Bor}
use Rattle.std.specs.Prelude.{IfOk}
use Rattle.std.specs.List.{AllZip}
use Rattle.rayon.proofs.ListFacts.{IfOk-then}
use Rattle.rayon.proofs.ToStd.{slice-AllZip}
use Rattle.cell_store.specs.Cells.{CellRows}
use Rattle.cube_val.specs.declared.val.Val.{Val}
use Rattle.measure_laws.specs.Measures.{most_items}
use Rattle.layer_builder.specs.Cuboids.{IsCuboid}
use Rattle.layer_builder.proofs.ResultFacts.{all_there}
use Rattle.layer_builder.proofs.PieceFacts.{part_short}
use Rattle.layer_builder.proofs.in_pieces.piece_cuboids.Goals as goal

abbrev Piece : Type 0
Piece = Bor (List (List Val))

pub collect-requires-clause-ready : goal.collect-requires-clause-ready
collect-requires-clause-ready g c κs within =
    let pieces = c.args.pieces.now in
    let rows : Piece → List (List Val) = λ p. p.now in
    let slice : c.map.result.base.base.slice.now ≡ pieces = ap (λ it. it.base.slice.now) c.map.ensures.base ∙ (ap (λ it. it.slice.now) c.with_min_len.ensures.base ∙ c.par_iter.ensures) in
    rw (c.map.ensures.f, slice)
    (λ k d lt x is.
    let short = part_short rows pieces k d lt in
    let same : length x.now.now ≡ length (get_or pieces k d).now = ap (λ (p : Piece). length p.now) is in
    let few : length x.now.now ≤ most_items = omega (arith, same, short, c.requires.few) in
    ((c.requires.dicts, (c.requires.few_dims, (c.requires.forms, (few, c.requires.within)))), λ y p. tt))

pub returns : goal.returns
returns g c =
    let pieces = c.args.pieces.now in
    let Of : Piece → CellRows → Type 0 = λ p t. IsCuboid c.args.aggs.now c.args.dicts.now p.now c.args.mask t in
    let slice = ap (λ it. it.base.slice.now) c.map.ensures.base ∙ (ap (λ it. it.slice.now) c.with_min_len.ensures.base ∙ c.par_iter.ensures) in
    let made = c.in_ok-made.ensures in
    let chain = rw c.map.ensures.f at made.1 in
    let each : AllZip (λ p r. IfOk r (Of p)) pieces c.in_ok-made.made.items = rw made.2 (slice-AllZip chain.0 pieces (chain.1 ∙ slice) (λ p r. IfOk r (Of p)) made.0 chain.2) in
    IfOk-then c.all_made.result _ _ c.all_made.ensures (λ tables h. all_there Of pieces _ tables.items each h)
