-- Ready sets with their versions, and what swaps and drops make of them.
use Rattle.std.specs.Prelude.{ℕ, ◌+◌}
use Rattle.range_list.specs.Ranges.{Interval}
use Rattle.run_history.specs.Sets.{ReadySet, Segment, dropped, swapped}
use Rattle.run_history.specs.World.{Submitted, World, origin_of}

-- a ready set with its version
pub record NumberedSet : Type 0 where
  pub segments : ReadySet
  pub version : ℕ

-- the segment that the job of this number makes
abbrev pub segment_of : {Query : Type 0} → World Query → ℕ → Submitted → Segment
segment_of w job s = record { range = s.range; job = job; origin = origin_of w s }

-- the next set of a swap: the segments inside the new one's range go, and the new one comes
abbrev pub after_swap : Segment → NumberedSet → NumberedSet
after_swap new set = record { segments = swapped new set.segments; version = set.version + 1 }

-- the next set of a drop: the segment of exactly this range goes
abbrev pub after_drop : Interval → NumberedSet → NumberedSet
after_drop range set = record { segments = dropped range set.segments; version = set.version + 1 }
