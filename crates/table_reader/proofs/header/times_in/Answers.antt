use Rattle.std.proofs.Common.{◌≡◌, ◌+◌, get_or, [], sym, ◌∙◌, ap, arith, take}
use Rattle.std.specs.Prelude.{count_by}
use Rattle.std.proofs.lemmas.List.{length-take-le, take_all}
use Rattle.std.proofs.lemmas.List.Sums.{count_by-le-length, count_by_more_no, count_by_more_yes}
use Rattle.csv.specs.Records.{fields_of}
use Rattle.table_reader.specs.Columns.{names}
use Rattle.table_reader.proofs.header.times_in.Goals as goal
use Rattle.table_reader.proofs.header.times_in.Goals.{then-names, else-names}

pub overflow_add-times : goal.overflow_add-times
overflow_add-times c =
    let few = count_by-le-length (names c.args.column.now) (take c.loop-i.i (fields_of c.args.header.now)) in
    let short = length-take-le c.loop-i.i (fields_of c.args.header.now) (omega arith) in
    omega (arith, c.loop-i.invariant)

pub loop-i-preserved : goal.loop-i-preserved
loop-i-preserved c =
    let test = names c.args.column.now in
    let fields = fields_of c.args.header.now in
    let here : test (get_or fields c.loop-i.i []) ≡ c.names.result = ap test (sym c.field_at.ensures) ∙ sym c.names.ensures in
    elim c.if-names.branch [
      | then-names w ↦ w.times-is ∙ ap (λ n. n + 1) c.loop-i.invariant ∙ sym (count_by_more_yes test fields c.loop-i.i [] (omega arith) (here ∙ w.if-names.true))
      | else-names w ↦ w.times-is ∙ c.loop-i.invariant ∙ sym (count_by_more_no test fields c.loop-i.i [] (omega arith) (here ∙ w.if-names.false))
    ]

pub returns : goal.returns
returns c = c.loop-i.invariant ∙ ap (count_by (names c.args.column.now)) (take_all c.loop-i.i (fields_of c.args.header.now) (omega arith))
