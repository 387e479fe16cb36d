use Rattle.std.proofs.Common.{◌≤◌, ◌+◌, ◌++◌, ◌∙◌, List, ap, arith, drop, length, sym}
use Rattle.std.specs.Borrow.{Bor}
use Rattle.std.specs.List.{flat_map}
use Rattle.std.proofs.lemmas.List.{append-nil, drop_all}
use Rattle.cube_val.specs.declared.val.Val.{Val}
use Rattle.layer_builder.proofs.PieceFacts.{cut_off, flat_map-push}
use Rattle.layer_builder.proofs.base_cuboid.cut.Goals as goal

pub loop-start-preserved : goal.loop-start-preserved
loop-start-preserved c =
    let rows = c.args.rows.now in
    let start = c.loop-start.start in
    let end = start + c.min.result in
    let piece : Bor (List (List Val)) → List (List Val) = λ p. p.now in
    let had = c.loop-start.pieces.items in
    let within : end ≤ length rows = omega (arith, c.min.ensures) in
    record {
      within = within;
      pieces = ap (λ l. flat_map piece l ++ drop end rows) c.in_ok-push.ensures.items ∙ ap (λ l. l ++ drop end rows) (flat_map-push piece had _)
          ∙ cut_off (flat_map piece had) rows rows start end (omega arith) c.loop-start.invariant.pieces;
    }

pub returns : goal.returns
returns c =
    let rows = c.args.rows.now in
    let start = c.loop-start.start in
    let piece : Bor (List (List Val)) → List (List Val) = λ p. p.now in
    let all = flat_map piece c.loop-start.pieces.items in
    sym (append-nil all) ∙ ap (λ l. all ++ l) (sym (drop_all start rows (omega arith))) ∙ c.loop-start.invariant.pieces
