use Rattle.std.proofs.Common.{All, ◌<◌, take}
use Rattle.descriptor_check.proofs.groups.include_below.Given as goal

abbrev pub invariant-loop-group : goal.invariant-loop-group
invariant-loop-group l = All (λ g. All (λ d. d < l.n) g.includes) (take l.group-index l.groups)
