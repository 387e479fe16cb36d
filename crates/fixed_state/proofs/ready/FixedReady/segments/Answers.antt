use Rattle.std.proofs.Common.{map, sym, ap, ◌∙◌}
use Rattle.std.proofs.lemmas.Simd.{map-map}
use Rattle.std.specs.Arc.{arc_value}
use Rattle.std.specs.declared.alloc.Global.{Global}
use Rattle.std.specs.declared.sync.Arc.{Arc}
use Rattle.fixed_state.specs.Ready.{ReadyModel, cells_in}
use Rattle.fixed_state.specs.declared.ready.KeptSegment.{KeptSegment}
use Rattle.fixed_state.proofs.ready.FixedReady.segments.Goals as goal

pub returns : goal.returns
returns c =
    ap (map (λ (segment : Arc KeptSegment Global). cells_in (arc_value segment))) c.deref.ensures.value
    ∙ (sym (map-map cells_in arc_value c.self.inside.segments.items) ∙ ap (λ (m : ReadyModel). m.cells) c.self.view_is)
