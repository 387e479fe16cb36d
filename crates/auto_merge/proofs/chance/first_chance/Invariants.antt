use Rattle.std.proofs.Common.{ℕ, ◌<◌}
use Rattle.auto_merge.specs.Chances.{IsChance}
use Rattle.auto_merge.proofs.chance.first_chance.Given as goal

abbrev pub invariant-loop-first : goal.invariant-loop-first
invariant-loop-first l = (f c : ℕ) → f < l.first → ¬ (IsChance l.ranges l.days f c)
