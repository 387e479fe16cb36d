use Rattle.std.proofs.Common.{◌≡◌, ◌∙◌, ap, sym, subst, Some, arith}
use Rattle.table_reader.specs.Tables.{IsFaultOf}
use Rattle.table_reader.specs.declared.fault.TableFault.{TableFault}
use Rattle.table_reader.proofs.TableFacts.{body_is_table, repeated_is_fault, stopped_is_fault}
use Rattle.table_reader.proofs.table.judge.Goals as goal

pub returns-in-None-clause-ok : goal.returns-in-None-clause-ok
returns-in-None-clause-ok c = λ bytes header named b.
    let distinct = rw (c.in-Ok-None.field-0-is, c.as_slice.ensures, c.as_slice-2.ensures.value) at c.in-Ok-None.ensures.none in
    body_is_table c.args.form.now bytes header c.args.body.rows.items (rw c.in-None.is at b) named distinct

pub returns-in-Some-clause-fault : goal.returns-in-Some-clause-fault
returns-in-Some-clause-fault c f same bytes header named b =
    let distinct = rw (c.in-Ok-None.field-0-is, c.as_slice.ensures, c.as_slice-2.ensures.value) at c.in-Ok-None.ensures.none in
    let is : c.in-Some.fault ≡ f = cc same in
    stopped_is_fault c.args.form.now bytes header c.args.body.rows.items f (rw (c.in-Some.is ∙ ap Some is) at b) named distinct

pub overflow_cast-place : goal.overflow_cast-place
overflow_cast-place c =
    let told = rw (c.in-Ok-Some.field-0-is, c.as_slice-2.ensures.value) at c.in-Ok-Some.ensures.some in
    omega (arith, told.0, c.requires.few)

pub overflow_add-place : goal.overflow_add-place
overflow_add-place c =
    let told = rw (c.in-Ok-Some.field-0-is, c.as_slice-2.ensures.value) at c.in-Ok-Some.ensures.some in
    omega (arith, told.0, c.requires.few)

pub returns-in-Ok-Some-clause-fault : goal.returns-in-Ok-Some-clause-fault
returns-in-Ok-Some-clause-fault c f same bytes header named b =
    let told = rw (c.in-Ok-Some.field-0-is, c.as_slice.ensures, c.as_slice-2.ensures.value) at c.in-Ok-Some.ensures.some in
    let is : c.in_row.result ≡ f = cc same in
    let first = repeated_is_fault c.args.form.now bytes header c.args.body.rows.items c.args.body.fault c.in-Ok-Some.place b named told.0 told.1 told.2 in
    subst (λ (g : TableFault). IsFaultOf c.args.form.now bytes g) (sym c.in_row.ensures ∙ is) first
