use Rattle.std.proofs.Common.{◌≡◌, ◌<◌, ◌∙◌, true, false, length, ap, sym, arith}
use Rattle.std.specs.Prelude.{Some, None, is_some}
use Rattle.std.proofs.lemmas.List.{get_or_default}
use Rattle.job_list.specs.JobList.{has, without, NumberList}
use Rattle.job_list.specs.Links.{walked, slot_at}
use Rattle.job_list.proofs.Splices.{below-IsLinked, below-previous, below-next, has-IsLinked, IsLinked-without, IsLinked-walked, walked-IsLinked}
use Rattle.job_list.proofs.list.JobList.unlink.Goals as goal

pub index-requires : goal.index-requires
index-requires c =
    let listed : has (walked c.self.inside.len c.self.inside.head c.self.inside.slots.items) c.args.id ≡ true =
    ap (λ (v : NumberList). has v.items c.args.id) c.self.view_is ∙ c.requires in
    let within : c.args.id < length c.self.inside.slots.items = below-IsLinked _ _ _ _ _ c.self.invariant c.args.id listed in
    omega (arith, within, c.self.inside.slots.ok.0)

pub unreachable-requires : goal.unreachable-requires
unreachable-requires c =
    let listed : has (walked c.self.inside.len c.self.inside.head c.self.inside.slots.items) c.args.id ≡ true =
    ap (λ (v : NumberList). has v.items c.args.id) c.self.view_is ∙ c.requires in
    let within : c.args.id < length c.self.inside.slots.items = below-IsLinked _ _ _ _ _ c.self.invariant c.args.id listed in
    let empty : slot_at c.self.inside.slots.items c.args.id ≡ None =
    get_or_default _ c.args.id None c.index.result.now within ∙ (sym c.index.ensures ∙ c.in_default.is) in
    let wrong : true ≡ false = sym listed ∙ (sym (has-IsLinked _ _ _ _ _ c.self.invariant c.args.id) ∙ ap is_some empty) in
    absurd (cc wrong)

pub set_next-requires : goal.set_next-requires
set_next-requires c = λ x e.
    let listed : has (walked c.self.inside.len c.self.inside.head c.self.inside.slots.items) c.args.id ≡ true =
    ap (λ (v : NumberList). has v.items c.args.id) c.self.view_is ∙ c.requires in
    let within : c.args.id < length c.self.inside.slots.items = below-IsLinked _ _ _ _ _ c.self.invariant c.args.id listed in
    let slot : slot_at c.self.inside.slots.items c.args.id ≡ Some c.in-Some.link =
    get_or_default _ c.args.id None c.index.result.now within ∙ (sym c.index.ensures ∙ c.in-Some.is) in
    let below : x < length c.self.inside.slots.items = below-previous _ _ _ _ _ c.args.id c.in-Some.link c.self.invariant slot x e in
    omega (arith, below, c.self.inside.slots.ok.0)

pub set_previous-requires : goal.set_previous-requires
set_previous-requires c = λ x e.
    let listed : has (walked c.self.inside.len c.self.inside.head c.self.inside.slots.items) c.args.id ≡ true =
    ap (λ (v : NumberList). has v.items c.args.id) c.self.view_is ∙ c.requires in
    let within : c.args.id < length c.self.inside.slots.items = below-IsLinked _ _ _ _ _ c.self.invariant c.args.id listed in
    let slot : slot_at c.self.inside.slots.items c.args.id ≡ Some c.in-Some.link =
    get_or_default _ c.args.id None c.index.result.now within ∙ (sym c.index.ensures ∙ c.in-Some.is) in
    let below : x < length c.self.inside.slots.items = below-next _ _ _ _ _ c.args.id c.in-Some.link c.self.invariant slot x e in
    omega (arith, below, c.self.inside.slots.ok.0, c.set_next.ensures.len)

pub index_mut-requires : goal.index_mut-requires
index_mut-requires c =
    let listed : has (walked c.self.inside.len c.self.inside.head c.self.inside.slots.items) c.args.id ≡ true =
    ap (λ (v : NumberList). has v.items c.args.id) c.self.view_is ∙ c.requires in
    let within : c.args.id < length c.self.inside.slots.items = below-IsLinked _ _ _ _ _ c.self.invariant c.args.id listed in
    omega (arith, within, c.self.inside.slots.ok.0, c.set_next.ensures.len, c.set_previous.ensures.len)

pub invariant_of-self : goal.invariant_of-self
invariant_of-self c =
    let listed : has (walked c.self.inside.len c.self.inside.head c.self.inside.slots.items) c.args.id ≡ true =
    ap (λ (v : NumberList). has v.items c.args.id) c.self.view_is ∙ c.requires in
    let within : c.args.id < length c.self.inside.slots.items = below-IsLinked _ _ _ _ _ c.self.invariant c.args.id listed in
    let slot : slot_at c.self.inside.slots.items c.args.id ≡ Some c.in-Some.link =
    get_or_default _ c.args.id None c.index.result.now within ∙ (sym c.index.ensures ∙ c.in-Some.is) in
    rw (c.set_previous.ensures.items, c.set_next.ensures.items, c.end_without-self-inside.ensures, c.end_without-self-inside-2.ensures)
    (IsLinked-walked _ _ _ _ _ (IsLinked-without _ _ _ _ _ c.args.id c.in-Some.link c.self.invariant slot))

pub returns-clause-items : goal.returns-clause-items
returns-clause-items c =
    let listed : has (walked c.self.inside.len c.self.inside.head c.self.inside.slots.items) c.args.id ≡ true =
    ap (λ (v : NumberList). has v.items c.args.id) c.self.view_is ∙ c.requires in
    let within : c.args.id < length c.self.inside.slots.items = below-IsLinked _ _ _ _ _ c.self.invariant c.args.id listed in
    let slot : slot_at c.self.inside.slots.items c.args.id ≡ Some c.in-Some.link =
    get_or_default _ c.args.id None c.index.result.now within ∙ (sym c.index.ensures ∙ c.in-Some.is) in
    rw (c.set_previous.ensures.items, c.set_next.ensures.items, c.end_without-self-inside.ensures)
    (walked-IsLinked _ _ _ _ _ (IsLinked-without _ _ _ _ _ c.args.id c.in-Some.link c.self.invariant slot)
    ∙ ap (λ (v : NumberList). without c.args.id v.items) c.self.view_is)
