use Rattle.std.proofs.Common.{◌≡◌, ◌≤◌, ◌<◌, ◌+◌, ◌&&◌, ◌∙◌, Bool, ℕ, ap, arith, get_or, length, subst, sym, take, take_all}
use Rattle.std.specs.Prelude.{vec_len}
use Rattle.std.specs.List.{list_all}
use Rattle.std.proofs.lemmas.List.Folds.{list_all_more}
use Rattle.std.proofs.lemmas.Nat.Bits.{bit_at_ones}
use Rattle.cell_store.specs.Columns.{key_at, lists_of}
use Rattle.cell_store.specs.Selects.{in_spans, passes, passes_test}
use Rattle.cell_store.specs.declared.select.IdTest.{IdTest}
use Rattle.cell_store.proofs.ColumnLemmas.{Column, number_of}
use Rattle.cell_store.proofs.LaneLemmas.{and_lanes, same_lanes}
use Rattle.cell_store.proofs.SelectLemmas.{passes-id}
use Rattle.cell_store.proofs.lanes.lanes_passing.Goals as goal

pub lanes_in_spans-lanes-requires : goal.lanes_in_spans-lanes-requires
lanes_in_spans-lanes-requires c =
    let columns = c.args.columns.now in
    let test = c.test-item.result in
    let in_range : test.column < length columns = subst (λ (t : IdTest). t.column < length columns) (sym c.test-item.is) (c.requires.columns c.loop-test.test-index test (omega arith)) in
    let column = c.index-columns-test.result in
    let fit : c.args.at + 8 ≤ vec_len column = subst (λ (v : Column). c.args.at + 8 ≤ vec_len v) (sym c.index-columns-test.is) (c.requires.in_range test.column column in_range) in
    rw c.as_slice.ensures.value (omega (arith, fit, column.ok.0))

pub loop-test-init : goal.loop-test-init
loop-test-init c = λ k h. bit_at_ones 8 k h

pub loop-test-preserved : goal.loop-test-preserved
loop-test-preserved c =
    let columns = c.args.columns.now in
    let tests = c.args.tests.now in
    let i = c.loop-test.test-index in
    let test = c.test-item.result in
    let in_range : test.column < length columns = subst (λ (t : IdTest). t.column < length columns) (sym c.test-item.is) (c.requires.columns i test (omega arith)) in
    let done : ℕ → Bool = λ place. list_all (passes_test (key_at (lists_of columns) place)) (take i tests) in
    let here : ℕ → Bool = λ place. in_spans c.as_slice-in-loop-test.result.now (get_or c.as_slice.result.now place 0) in
    let now : ℕ → Bool = λ place. list_all (passes_test (key_at (lists_of columns) place)) (take (i + 1) tests) in
    let tells : (place : ℕ) → here place ≡ passes_test (key_at (lists_of columns) place) (get_or tests i test) =
    λ place.
    let key = key_at (lists_of columns) place in
    passes-id key test c.as_slice-in-loop-test.result.now (get_or c.as_slice.result.now place 0) c.as_slice-in-loop-test.ensures.value
    (ap (λ l. get_or l place 0) c.as_slice.ensures.value ∙ number_of columns place test.column c.index-columns-test.result in_range c.index-columns-test.is)
    ∙ ap (passes_test key) c.test-item.is in
    same_lanes (λ place. done place && here place) now c.args.at _
    (λ place. (λ j. done place && tells place j) ∙ sym (list_all_more (passes_test (key_at (lists_of columns) place)) tests i test c.loop-test-test.true))
    (and_lanes done here c.args.at c.loop-test.lanes c.lanes_in_spans-lanes.result c.loop-test.invariant c.lanes_in_spans-lanes.ensures)

pub returns : goal.returns
returns c =
    let columns = c.args.columns.now in
    let tests = c.args.tests.now in
    let i = c.loop-test.test-index in
    same_lanes (λ place. list_all (passes_test (key_at (lists_of columns) place)) (take i tests)) (λ place. passes tests (key_at (lists_of columns) place)) c.args.at c.loop-test.lanes
    (λ place. ap (list_all (passes_test (key_at (lists_of columns) place))) (take_all i tests c.loop-test-test.false)) c.loop-test.invariant
