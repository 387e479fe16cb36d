use Rattle.std.proofs.Common.{List, subst, sym}
use Rattle.cube_val.specs.declared.val.Val.{Val}
use Rattle.cell_store.specs.Cells.{CellRows}
use Rattle.rayon.proofs.ListFacts.{IfOk-then}
use Rattle.layer_builder.specs.Pieces.{AreBases, ArePieces}
use Rattle.layer_builder.proofs.base_cuboid.base.Goals as goal

pub base_of_pieces-requires-clause-pieces : goal.base_of_pieces-requires-clause-pieces
base_of_pieces-requires-clause-pieces g c =
    let aggs = c.args.forms.now in
    let dicts = c.args.dicts.now in
    let tables = c.in_ok-tables.tables.items in
    let bases = subst (λ (rows : List (List Val)). AreBases aggs dicts rows tables) c.rows-2.ensures c.in_ok-tables.ensures in
    subst (λ (ts : List CellRows). ArePieces aggs dicts ts) (sym c.deref-2.ensures.value) (record { rows = c.args.flat.now; bases = bases; few = c.requires.few })

pub returns : goal.returns
returns g c =
    let aggs = c.args.forms.now in
    let dicts = c.args.dicts.now in
    let tables = c.in_ok-tables.tables.items in
    let bases = subst (λ (rows : List (List Val)). AreBases aggs dicts rows tables) c.rows-2.ensures c.in_ok-tables.ensures in
    IfOk-then c.base_of_pieces.result _ _ c.base_of_pieces.ensures
    (λ table h. h c.args.flat.now (subst (λ (ts : List CellRows). AreBases aggs dicts c.args.flat.now ts) (sym c.deref-2.ensures.value) bases))
