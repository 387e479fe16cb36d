use Rattle.std.proofs.Common.{◌≡◌, ◌++◌, ℕ, List, [], Result, Ok, Err, OnOk, is_ok, if◌then◌else◌, drop, ap, ◌∙◌, arith}
use Rattle.std.specs.List.{flat_map, range_with_len}
use Rattle.cuboid_lines.specs.Lines.{columns_text, spaced_if_in}
use Rattle.cuboid_lines.proofs.MaskFacts.{flat_map_range}
use Rattle.cuboid_lines.proofs.names.add_columns.Goals as goal

extended : {A E : Type 0} (r : Result A E) (new old more all : List ℕ) → new ≡ (if is_ok r then old ++ more else old) → more ≡ all → OnOk r (new ≡ old ++ all)
extended (Ok x) new old more all e same = e ∙ ap (λ m. old ++ m) same
extended (Err x) new old more all e same = tt

pub loop-d-preserved : goal.loop-d-preserved
loop-d-preserved c =
    let f = spaced_if_in c.args.cube.now c.args.mask in
    c.in_ok-add_if_in.ensures ∙ ap (λ t. t ++ f c.loop-d.d) c.loop-d.invariant ∙ flat_map_range f [] c.loop-d.d

pub returns : goal.returns
returns c =
    let f = spaced_if_in c.args.cube.now c.args.mask in
    let end : c.loop-d.d ≡ 64 = omega arith in
    let names : c.as_slice.result.now ≡ flat_map f (range_with_len 0 64) = c.as_slice.ensures.value ∙ c.loop-d.invariant ∙ ap (λ n. flat_map f (range_with_len 0 n)) end in
    extended c.extend_from_slice.result _ _ _ (columns_text c.args.cube.now c.args.mask) c.extend_from_slice.ensures.items (c.without_first.ensures ∙ ap (drop 1) names)
