use Rattle.std.proofs.Common.{◌≡◌, ◌∷◌, ◌++◌, [], ℕ, List, map, ◌∙◌, subst}
use Rattle.std.specs.Prelude.{codes}
use Rattle.std.specs.Fmt.{decimal}
use Rattle.std.specs.String.{string_bytes}
use Rattle.fault_lines.specs.Lines.{Appends}
use Rattle.fault_lines.specs.Tables.{bad_table_line}
use Rattle.fault_lines.proofs.table.refuse_table.Goals as goal

pub returns-in-Ok-clause-line : goal.returns-in-Ok-clause-line
returns-in-Ok-clause-line g c same =
    let written : string_bytes c.in-Ok.line
    ≡ codes "fault: BadTable " ++ (c.args.path.now ++ 32 ∷ (decimal c.args.fault.row ++ 32 ∷ (c.column_text-column.result.now ++ 32 ∷ (c.kind_text-kind.result.now ++ 10 ∷ [])))) =
    c.in-Ok.ensures.ok in
    let line : c.as_bytes.result.now ≡ bad_table_line (map (λ name. name.now) c.args.names.now) c.args.path.now c.args.fault =
    c.as_bytes.ensures.value ∙ (rw (c.column_text-column.ensures, c.kind_text-kind.ensures) at written) in
    subst (λ (text : List ℕ). Appends (g.S.Sink.faults c.args.sink.now) (g.S.Sink.faults c.refuse.new.sink) (g.S.Sink.written c.args.sink.now) (g.S.Sink.written c.refuse.new.sink) text)
    line (c.refuse.ensures.line same)
