use Rattle.std.proofs.Common.{◌<◌, All, subst, arith}
use Rattle.std.proofs.lemmas.List.{take_all}
use Rattle.descriptor_check.proofs.groups.include_below.Goals as goal

pub returns : goal.returns
returns c = λ _.
    let groups = c.args.groups.now in
    subst (λ gs. All (λ g. All (λ d. d < c.args.n) g.includes) gs) (take_all c.loop-group.group-index groups (omega arith)) c.loop-group.invariant
