use Rattle.std.proofs.Common.{List, length, map, insert, ap, ◌∙◌, arith}
use Rattle.std.specs.Arc.{arc_value}
use Rattle.std.proofs.lemmas.List.{length-map}
use Rattle.fixed_state.specs.declared.ready.KeptSegment.{KeptSegment}
use Rattle.fixed_state.proofs.Swaps.{map_insert}
use Rattle.fixed_state.proofs.ready.with_segment.Goals as goal

pub insert-requires : goal.insert-requires
insert-requires c =
    let same = ap length c.in_ok-next.ensures in
    omega (arith, c.requires, same, length-map c.in_ok-next.next.items arc_value, length-map c.args.segments.now arc_value)

pub returns : goal.returns
returns c =
    ap (map arc_value) c.in_ok-insert.ensures.items
    ∙ (map_insert arc_value c.in_ok-next.next.items c.args.place c.in_ok-shared.shared
    ∙ (ap (λ (l : List KeptSegment). insert l c.args.place (arc_value c.in_ok-shared.shared)) c.in_ok-next.ensures
    ∙ ap (insert (map arc_value c.args.segments.now) c.args.place) c.in_ok-shared.ensures))
