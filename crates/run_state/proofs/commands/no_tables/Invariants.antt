use Rattle.std.proofs.Common.{◌≡◌, map}
use Rattle.std.specs.Prelude.{option_map}
use Rattle.run_history.specs.World.{nothing_loaded}
use Rattle.run_state.proofs.commands.no_tables.Given as goal

abbrev pub invariant-loop-table : goal.invariant-loop-table
invariant-loop-table g l = map (option_map g.T.TableHandle.rows) l.none.items ≡ nothing_loaded l._table
