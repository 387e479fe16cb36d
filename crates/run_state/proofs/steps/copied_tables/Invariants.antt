use Rattle.std.proofs.Common.{◌≡◌, map, take}
use Rattle.std.specs.Prelude.{option_map}
use Rattle.run_state.proofs.steps.copied_tables.Given as goal

abbrev pub invariant-loop-table : goal.invariant-loop-table
invariant-loop-table g l = map (option_map g.T.TableHandle.rows) l.copied.items ≡ map (option_map g.T.TableHandle.rows) (take l.table-index l.tables)
