use Rattle.std.proofs.Common.{◌≡◌, ◌<◌, ◌&&◌, ◌∙◌, ap, arith, false, get_or, length, subst, sym, true}
use Rattle.std.proofs.lemmas.List.Folds.{list_all_more}
use Rattle.cell_store.specs.Columns.{key_at, lists_of}
use Rattle.cell_store.specs.Selects.{passes_test}
use Rattle.cell_store.specs.declared.select.IdTest.{IdTest}
use Rattle.cell_store.proofs.ColumnLemmas.{number_of}
use Rattle.cell_store.proofs.SelectLemmas.{fails_at, passes-id}
use Rattle.cell_store.proofs.select.passes.Goals as goal

pub returns-then-not-in_spans : goal.returns-then-not-in_spans
returns-then-not-in_spans c =
    let columns = c.args.columns.now in
    let key = key_at (lists_of columns) c.args.place in
    let test = c.test-item.result in
    let in_range : test.column < length columns = subst (λ (t : IdTest). t.column < length columns) (sym c.test-item.is) (c.requires.columns c.loop-test.test-index test (omega arith)) in
    let id = c.id_at-id.ensures ∙ number_of columns c.args.place test.column c.index-columns-test.result (omega arith) c.index-columns-test.is in
    let failed : passes_test key test ≡ false = sym (passes-id key test c.as_slice.result.now c.id_at-id.result c.as_slice.ensures.value id) ∙ sym c.in_spans.ensures ∙ c.if-not-in_spans.true in
    sym (fails_at (passes_test key) c.args.tests.now c.loop-test.test-index test (omega arith) (ap (passes_test key) (sym c.test-item.is) ∙ failed))

pub loop-test-preserved : goal.loop-test-preserved
loop-test-preserved c =
    let columns = c.args.columns.now in
    let key = key_at (lists_of columns) c.args.place in
    let test = c.test-item.result in
    let in_range : test.column < length columns = subst (λ (t : IdTest). t.column < length columns) (sym c.test-item.is) (c.requires.columns c.loop-test.test-index test (omega arith)) in
    let id = c.id_at-id.ensures ∙ number_of columns c.args.place test.column c.index-columns-test.result (omega arith) c.index-columns-test.is in
    let passed : passes_test key test ≡ true = sym (passes-id key test c.as_slice.result.now c.id_at-id.result c.as_slice.ensures.value id) ∙ sym c.in_spans.ensures ∙ c.if-not-in_spans.false in
    let here : passes_test key (get_or c.args.tests.now c.loop-test.test-index test) ≡ true = ap (passes_test key) (sym c.test-item.is) ∙ passed in
    list_all_more (passes_test key) c.args.tests.now c.loop-test.test-index test (omega arith)
    ∙ (λ i. c.loop-test.invariant i && here i)
