use Rattle.std.proofs.Common.{◌≡◌, ◌+◌, ◌∷◌, ◌++◌, ℕ, [], drop, arith, sym, ap, ◌∙◌, refl, append_assoc, append-nil}
use Rattle.std.proofs.lemmas.List.{drop_all}
use Rattle.csv.specs.Records.{fields_of}
use Rattle.table_reader.specs.Columns.{column_in, columns_in}
use Rattle.table_reader.specs.declared.header.Column.{Column}
use Rattle.table_reader.proofs.ColumnFacts.{columns_in-drop}
use Rattle.table_reader.proofs.header.columns_of.Goals as goal

pub loop-i-init : goal.loop-i-init
loop-i-init c = rw c.in_ok-columns.ensures.items refl

pub loop-i-preserved : goal.loop-i-preserved
loop-i-preserved c =
    let form = c.args.form.now in
    let header = fields_of c.args.header.now in
    let column = c.get-column.result.now in
    let no_null = c.get.result.now in
    let at : ℕ → Column = λ n. record { ty = column.ty; no_null = no_null; place = n } in
    let next = columns_in-drop header form.cols form.no_null c.loop-i.i column no_null (omega arith) (omega (arith, c.requires)) in
    let there = rw (← c.get-column.ensures.value, ← c.get.ensures.value) at next in
    let pushed : c.push.new.self.items ≡ c.loop-i.columns.items ++ column_in header column no_null ∷ [] =
    c.in_ok-push.ensures.items ∙ ap (λ (n : ℕ). c.loop-i.columns.items ++ at n ∷ []) c.place_in.ensures in
    rw pushed
    (append_assoc c.loop-i.columns.items (column_in header column no_null ∷ []) (columns_in header (drop (c.loop-i.i + 1) form.cols) (drop (c.loop-i.i + 1) form.no_null))
    ∙ ap (λ rest. c.loop-i.columns.items ++ rest) (sym there) ∙ c.loop-i.invariant)

pub returns : goal.returns
returns c =
    let none = drop_all c.loop-i.i c.args.form.now.cols (omega arith) in
    let left = rw none at c.loop-i.invariant in
    sym (append-nil c.loop-i.columns.items) ∙ left
