use Rattle.std.proofs.Common.{◌++◌, [], ◌∷◌, None, map, ap, ◌∙◌}
use Rattle.std.specs.Prelude.{option_map}
use Rattle.std.proofs.lemmas.List.{map-append}
use Rattle.run_state.proofs.Steers.{absent_more}
use Rattle.run_state.proofs.commands.no_tables.Goals as goal

pub loop-table-preserved : goal.loop-table-preserved
loop-table-preserved g c =
    ap (map (option_map g.T.TableHandle.rows)) c.in_ok-push.ensures.items
    ∙ (map-append (option_map g.T.TableHandle.rows) c.loop-table.none.items _ ∙ (ap (λ l. l ++ None ∷ []) c.loop-table.invariant ∙ absent_more c.loop-table._table))
