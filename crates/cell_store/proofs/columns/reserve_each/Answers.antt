use Rattle.std.proofs.Common.{◌∙◌, arith}
use Rattle.std.proofs.Math.Seq.{map-set_same}
use Rattle.cell_store.specs.Columns.{HasRoom}
use Rattle.cell_store.proofs.ColumnLemmas.{Column, within-set}
use Rattle.cell_store.proofs.columns.reserve_each.Goals as goal

pub returns-in_err-reserve-clause-same : goal.returns-in_err-reserve-clause-same
returns-in_err-reserve-clause-same c =
    map-set_same (λ (w : Column). w.items) c.loop-column.columns c.loop-column.column-index c.reserve.new.self c.column-item.result c.reserve.ensures.items
    ∙ c.loop-column.invariant.same

pub loop-column-preserved : goal.loop-column-preserved
loop-column-preserved c =
    let V = c.loop-column.columns in
    let k = c.loop-column.column-index in
    record {
      same =
          map-set_same (λ (w : Column). w.items) V k c.reserve.new.self c.column-item.result c.reserve.ensures.items
          ∙ c.loop-column.invariant.same;
      room = within-set HasRoom V k c.reserve.new.self (omega arith) c.loop-column.invariant.room (omega (arith, c.in_ok-reserve.ensures.ok));
    }
