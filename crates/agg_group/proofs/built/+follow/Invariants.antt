use Rattle.std.proofs.Common.{◌≡◌, ◌≤◌, length, drop}
use Rattle.agg_group.specs.Limits.{most_cuboids}
use Rattle.agg_group.specs.Units.{masks_with, with_fronts}
use Rattle.agg_group.specs.UnitLists.{steps_of}
use Rattle.agg_group.specs.Built.{with_masks}
use Rattle.agg_group.proofs.built.+follow.Given as goal

abbrev pub decreases-follow : goal.decreases-follow
decreases-follow l = length l.units.now

abbrev pub invariant-loop-step : goal.invariant-loop-step
invariant-loop-step l =
    (with_masks l.masks.keys (with_fronts (masks_with l.cap (steps_of l.later)) l.cap (drop l.step-index l.step-items) l.taken)
    ≡ with_masks l.initial.masks.keys (with_fronts (masks_with l.cap (steps_of l.later)) l.cap l.step-items l.initial.taken))
    × (length l.masks.keys ≤ most_cuboids)
