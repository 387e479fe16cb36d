use Rattle.std.proofs.Common.{◌<◌, ◌+◌, ◌-◌, ◌^◌, ◌∙◌, length, ap, arith}
use Rattle.std.specs.Prelude.{Option}
use Rattle.std.proofs.lemmas.List.{take_all}
use Rattle.job_list.specs.declared.link.Link.{Link}
use Rattle.job_list.specs.JobList.{NumberList}
use Rattle.job_list.proofs.Splices.{IsLinked-more, IsLinked-walked, walked-IsLinked}
use Rattle.job_list.proofs.list.JobList.reserve.Goals as goal

pub invariant_of-self : goal.invariant_of-self
invariant_of-self c =
    let whole : length c.self.inside.slots.items < c.args.capacity = omega (arith, c.self.inside.slots.ok.0, c.len.ensures, c.if-capacity-len.true) in
    let small : length c.self.inside.slots.items + (c.args.capacity - c.self.inside.slots.len) < 2 ^ 32 = omega (arith, whole, c.self.inside.slots.ok.0) in
    rw (c.in_ok-resize.ensures.items, take_all {A = Option Link} c.args.capacity c.self.inside.slots.items (omega (arith, whole)))
    (IsLinked-walked _ _ _ _ _ (IsLinked-more _ _ _ _ _ _ c.self.invariant small))

pub returns-in_ok-resize-clause-items : goal.returns-in_ok-resize-clause-items
returns-in_ok-resize-clause-items c =
    let whole : length c.self.inside.slots.items < c.args.capacity = omega (arith, c.self.inside.slots.ok.0, c.len.ensures, c.if-capacity-len.true) in
    let small : length c.self.inside.slots.items + (c.args.capacity - c.self.inside.slots.len) < 2 ^ 32 = omega (arith, whole, c.self.inside.slots.ok.0) in
    rw (c.in_ok-resize.ensures.items, take_all {A = Option Link} c.args.capacity c.self.inside.slots.items (omega (arith, whole)))
    (walked-IsLinked _ _ _ _ _ (IsLinked-more _ _ _ _ _ _ c.self.invariant small) ∙ ap (λ (v : NumberList). v.items) c.self.view_is)
