use Rattle.std.proofs.Common.{◌+◌, ◌||◌, Bool, ℕ, ap, get_or, sym, take, take_all}
use Rattle.std.specs.List.{list_any}
use Rattle.std.proofs.lemmas.List.Folds.{list_any_more}
use Rattle.std.proofs.lemmas.Nat.Bits.{bit_at-zero}
use Rattle.cell_store.specs.Selects.{in_spans, is_in}
use Rattle.cell_store.specs.declared.select.IdSpan.{IdSpan}
use Rattle.cell_store.proofs.LaneLemmas.{or_lanes, same_lanes}
use Rattle.cell_store.proofs.lanes.lanes_in_spans.Goals as goal

pub loop-span-init : goal.loop-span-init
loop-span-init c = λ k h. bit_at-zero k

pub loop-span-preserved : goal.loop-span-preserved
loop-span-preserved c =
    let ids = c.args.ids.now in
    let spans = c.args.spans.now in
    let i = c.loop-span.span-index in
    let done : ℕ → Bool = λ place. list_any (is_in (get_or ids place 0)) (take i spans) in
    let span : IdSpan = get_or spans i (record { from = 0; to = 0 }) in
    let here : ℕ → Bool = λ place. is_in (get_or ids place 0) span in
    let now : ℕ → Bool = λ place. list_any (is_in (get_or ids place 0)) (take (i + 1) spans) in
    same_lanes (λ place. done place || here place) now c.args.at _
    (λ place. sym (list_any_more (is_in (get_or ids place 0)) spans i (record { from = 0; to = 0 }) c.loop-span-test.true))
    (or_lanes done here c.args.at c.loop-span.lanes c.lanes_in_span-lanes.result c.loop-span.invariant c.lanes_in_span-lanes.ensures)

pub returns : goal.returns
returns c =
    let ids = c.args.ids.now in
    let spans = c.args.spans.now in
    let i = c.loop-span.span-index in
    same_lanes (λ place. list_any (is_in (get_or ids place 0)) (take i spans)) (λ place. in_spans spans (get_or ids place 0)) c.args.at c.loop-span.lanes
    (λ place. ap (list_any (is_in (get_or ids place 0))) (take_all i spans c.loop-span-test.false)) c.loop-span.invariant
