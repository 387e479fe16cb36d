use Rattle.std.proofs.Common.{◌≡◌, ◌<◌, ◌+◌, ◌^◌, ◌∙◌, ◌++◌, ◌∷◌, [], false, length, ap, arith}
use Rattle.job_list.specs.JobList.{has, NumberList}
use Rattle.job_list.specs.Links.{walked}
use Rattle.job_list.proofs.Splices.{below-tail, IsLinked-push, IsLinked-walked, walked-IsLinked, count-IsLinked}
use Rattle.job_list.proofs.list.JobList.push_back.Goals as goal

pub set_next-requires : goal.set_next-requires
set_next-requires c = λ x e. let within : x < length c.self.inside.slots.items = below-tail _ _ _ _ _ c.self.invariant x e in omega (arith, within, c.self.inside.slots.ok.0)

pub overflow_add-self : goal.overflow_add-self
overflow_add-self c =
    let capacity : length c.self.inside.slots.items ≡ c.args.self.now.capacity = ap (λ (v : NumberList). v.capacity) c.self.view_is in
    let absent : has (walked c.self.inside.len c.self.inside.head c.self.inside.slots.items) c.args.id ≡ false =
    ap (λ (v : NumberList). has v.items c.args.id) c.self.view_is ∙ c.requires.absent in
    let fits : c.self.inside.len + 1 < 2 ^ 32 =
    count-IsLinked _ _ _ _ _ (IsLinked-push _ _ _ _ _ c.args.id c.self.invariant (omega (arith, capacity, c.requires.below)) absent) in
    omega (arith, fits)

pub invariant_of-self : goal.invariant_of-self
invariant_of-self c =
    let capacity : length c.self.inside.slots.items ≡ c.args.self.now.capacity = ap (λ (v : NumberList). v.capacity) c.self.view_is in
    let absent : has (walked c.self.inside.len c.self.inside.head c.self.inside.slots.items) c.args.id ≡ false =
    ap (λ (v : NumberList). has v.items c.args.id) c.self.view_is ∙ c.requires.absent in
    rw (c.set_next.ensures.items, c.or-self-inside.ensures)
    (IsLinked-walked _ _ _ _ _ (IsLinked-push _ _ _ _ _ c.args.id c.self.invariant (omega (arith, capacity, c.requires.below)) absent))

pub returns-clause-items : goal.returns-clause-items
returns-clause-items c =
    let capacity : length c.self.inside.slots.items ≡ c.args.self.now.capacity = ap (λ (v : NumberList). v.capacity) c.self.view_is in
    let absent : has (walked c.self.inside.len c.self.inside.head c.self.inside.slots.items) c.args.id ≡ false =
    ap (λ (v : NumberList). has v.items c.args.id) c.self.view_is ∙ c.requires.absent in
    rw (c.set_next.ensures.items, c.or-self-inside.ensures)
    (walked-IsLinked _ _ _ _ _ (IsLinked-push _ _ _ _ _ c.args.id c.self.invariant (omega (arith, capacity, c.requires.below)) absent)
    ∙ ap (λ (v : NumberList). v.items ++ c.args.id ∷ []) c.self.view_is)
